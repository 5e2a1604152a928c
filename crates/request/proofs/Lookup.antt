-- The attributes of the element of a number. Assumes nothing.
use Rattle.std.proofs.Common.{◌≡◌, ℕ, zero, suc, ◌<◌, ◌≤◌, List, [], ◌∷◌, length, get_or, refl, arith}
use Rattle.wire.specs.Span.{part}
use Rattle.request.specs.declared.content.Attribute.{Attribute}
use Rattle.request.specs.declared.content.Element.{Element}
use Rattle.request.specs.Held.{attributes_of_held, elements_of_held}
use Rattle.request.specs.Place.{attributes_of}

module _ (bytes : List ℕ) (pool : List Attribute) where
  pub attributes_here : (es : List Element) (i : ℕ) (d : Element) → i < length es → attributes_of i (elements_of_held bytes pool es) ≡ attributes_of_held bytes (part pool (get_or es i d).attributes)
  attributes_here [] i d h = absurd (omega arith)
  attributes_here (e ∷ es) zero d h = refl
  attributes_here (e ∷ es) (suc i) d h = attributes_here es i d (omega arith)

  pub attributes_past : (es : List Element) (i : ℕ) → length es ≤ i → attributes_of i (elements_of_held bytes pool es) ≡ []
  attributes_past [] i h = refl
  attributes_past (e ∷ es) zero h = absurd (omega arith)
  attributes_past (e ∷ es) (suc i) h = attributes_past es i (omega arith)
