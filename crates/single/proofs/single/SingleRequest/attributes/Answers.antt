use Rattle.std.proofs.Common.{[], None, Some, refl, ap, ◌∙◌}
use Rattle.request.specs.Place.{content_of}
use Rattle.single.proofs.Viewing.{attributes_numbered, attributes_from, view_count}
use Rattle.single.proofs.single.SingleRequest.attributes.Goals as goal

pub returns-in_default : goal.returns-in_default
returns-in_default c =
    let s = c.args.self.now in
    view_count s c.args.element [] (attributes_from s c.args.element None c.in_default.ensures) _ refl 0 refl

pub returns : goal.returns
returns c =
    let s = c.args.self.now in
    let is =
    c.attributes-held.ensures
    ∙ attributes_numbered (content_of s.request.now).elements c.from.result
    ∙ attributes_from s c.args.element _ (ap Some c.from.ensures ∙ c.in-Some.ensures) in
    view_count s c.args.element c.attributes-held.result.now is _ c.is_node.ensures _ c.shown_count.ensures
