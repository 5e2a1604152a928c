use Rattle.std.proofs.Common.{None, refl, rules}
use Rattle.std.proofs.lemmas.List.Recursion.{or_is}
use Rattle.model.specs.Content.{is_tag, carried}
use Rattle.request.specs.Held.{tags_held}
use Rattle.request.specs.declared.content.Element.{Element}
use Rattle.request.proofs.read.elements.is_carried.Goals as goal

abbrev blank : Element
blank = record { category = 0; tag = None; attributes = record { first = 0; count = 0 } }

pub returns : goal.returns
returns c = or_is (λ es. carried c.args.tag (tags_held es)) (λ e. is_tag c.args.tag e.tag) refl (λ e es. refl) c.args.earlier.now blank c.any.result (λ h. search rules) (λ h. search rules)
