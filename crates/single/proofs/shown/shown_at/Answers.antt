use Rattle.std.proofs.Common.{◌≡◌, not, None, Some, sym, ap, ◌∙◌, rules, tests}
use Rattle.std.specs.List.{filter}
use Rattle.std.specs.Option.{option_map}
use Rattle.std.proofs.lemmas.Iterator.{YieldsList-from_slice}
use Rattle.std.proofs.lemmas.Iterator.Consumers.{YieldsList-from_filter, nth_from_yields_List}
use Rattle.request.specs.declared.content.Attribute.{Attribute}
use Rattle.single.specs.Shown.{hidden, seen_at}
use Rattle.single.proofs.Places.{nth_is_get, nth_map}
use Rattle.single.proofs.shown.shown_at.Goals as goal

pub returns-in_err-a : goal.returns-in_err-a
returns-in_err-a c =
    let own = filter (λ (a : Attribute). not (hidden c.args.node a)) c.args.attributes.now in
    let at = nth_from_yields_List None c.nth.new.self c.args.number c.in_err-a.ensures.ran (YieldsList-from_filter _ (λ a. not (hidden c.args.node a)) (YieldsList-from_slice c.args.attributes.now cc) c.filter.ensures.closure (λ x b q k. search (rules, tests))) in
    let none : c.from_residual.result ≡ None = search rules in
    none ∙ ap (option_map (seen_at c.args.node)) (at ∙ nth_is_get own c.args.number) ∙ sym (nth_map (seen_at c.args.node) own c.args.number)

pub returns : goal.returns
returns c =
    let own = filter (λ (a : Attribute). not (hidden c.args.node a)) c.args.attributes.now in
    let at = nth_from_yields_List (Some c.in_ok-a.a) c.nth.new.self c.args.number c.in_ok-a.ensures.ran (YieldsList-from_filter _ (λ a. not (hidden c.args.node a)) (YieldsList-from_slice c.args.attributes.now cc) c.filter.ensures.closure (λ x b q k. search (rules, tests))) in
    ap Some c.seen.ensures ∙ ap (option_map (seen_at c.args.node)) (at ∙ nth_is_get own c.args.number) ∙ sym (nth_map (seen_at c.args.node) own c.args.number)
