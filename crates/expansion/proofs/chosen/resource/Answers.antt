use Rattle.std.proofs.Common.{find, eqb, ap, sym, ◌∙◌, rules, tests}
use Rattle.std.specs.Option.{option_map}
use Rattle.std.proofs.lemmas.Iterator.{YieldsList-from_slice}
use Rattle.std.proofs.lemmas.Iterator.Adapters.{option_map_id}
use Rattle.std.proofs.lemmas.Iterator.Consumers.{YieldsList-from_copied}
use Rattle.std.proofs.lemmas.Iterator.Search.{find_from_yields_List}
use Rattle.request.specs.Place.{content_of}
use Rattle.expansion.specs.Few.{held}
use Rattle.expansion.specs.Listed.{listed_at}
use Rattle.expansion.specs.Categories.{code_in}
use Rattle.expansion.proofs.Codes.{first_of}
use Rattle.expansion.proofs.chosen.resource.Goals as goal

pub returns : goal.returns
returns c =
    let p = c.args.request.now in
    let hs = c.elements-elements.result.now in
    let es = (content_of p).elements in
    let first = find_from_yields_List (λ k. eqb (code_in hs k) 1) _ _ c.find.result c.find.ensures.ran (YieldsList-from_copied (YieldsList-from_slice c.as_slice.result.now cc)) (λ x b q k. search (rules, tests)) in
    ap (option_map (listed_at es)) (sym (option_map_id c.find.result) ∙ first ∙ ap (find (λ k. eqb (code_in hs k) 1)) c.as_slice.ensures)
    ∙ sym (first_of p.bytes.now p.index.attributes.items hs es c.elements-elements.ensures 1 (held c.args.chosen.now))
