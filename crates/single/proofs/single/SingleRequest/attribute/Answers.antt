use Rattle.std.proofs.Common.{◌≡◌, [], None, Some, refl, ap, ◌∙◌, rules}
use Rattle.std.specs.Option.{option_map}
use Rattle.request.specs.Place.{content_of}
use Rattle.single.specs.Single.{seen_in}
use Rattle.single.proofs.Viewing.{attributes_numbered, attributes_from, view_nth}
use Rattle.single.proofs.single.SingleRequest.attribute.Goals as goal

pub returns-in_err-chosen : goal.returns-in_err-chosen
returns-in_err-chosen c =
    let s = c.args.self.now in
    let none : c.from_residual.result ≡ None = search rules in
    ap (option_map (seen_in s)) none ∙ view_nth s c.args.element [] (attributes_from s c.args.element None c.in_err-chosen.ensures) _ refl c.args.number None refl

pub returns : goal.returns
returns c =
    let s = c.args.self.now in
    let is =
    c.attributes-held.ensures
    ∙ attributes_numbered (content_of s.request.now).elements c.from.result
    ∙ attributes_from s c.args.element _ (ap Some c.from.ensures ∙ c.in_ok-chosen.ensures) in
    view_nth s c.args.element c.attributes-held.result.now is _ c.is_node.ensures c.args.number _ c.shown_at.ensures
