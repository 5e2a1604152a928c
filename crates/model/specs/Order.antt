-- Lists in order. Assumes nothing.
use Rattle.std.specs.Prelude.{List, [], ◌∷◌}
use mathlib.Core.List.{Memᴰ}

-- each stands in R to every later one
abbrev pub Sorted : {A : Type 0} → (A → A → Type 0) → List A → Type 0
Sorted R [] = Unit {0}
Sorted {A} R (x ∷ xs) = ((y : A) → Memᴰ y xs → R x y) × Sorted R xs
