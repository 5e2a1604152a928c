-- Two values, compared byte by byte. Assumes nothing.
use Rattle.std.proofs.Common.{◌≡◌, ℕ, suc, true, false, ◌&&◌, eqb, List, [], ◌∷◌, length, refl, ap, ap₂}
use Rattle.std.proofs.lemmas.Bool.{eq-eqb, eqb-true, and_right, and_parts}
use Rattle.model.specs.Values.{same}

pub same_unequal : (xs ys : List ℕ) → (length xs ≡ length ys → ⊥) → same xs ys ≡ false
same_unequal [] [] h = absurd (h refl)
same_unequal [] (y ∷ ys) h = refl
same_unequal (x ∷ xs) [] h = refl
same_unequal (x ∷ xs) (y ∷ ys) h = and_right (eqb x y) (same xs ys) (same_unequal xs ys (λ e. h (ap suc e)))

-- the test decides the relation
pub same_is : (xs ys : List ℕ) → same xs ys ≡ true → xs ≡ ys
same_is [] [] e = refl
same_is [] (y ∷ ys) e = cc
same_is (x ∷ xs) [] e = cc
same_is (x ∷ xs) (y ∷ ys) e =
    let p = and_parts (eqb x y) (same xs ys) e in
    ap₂ (λ a l. a ∷ l) (eqb-true x y p.0) (same_is xs ys p.1)

pub same_self : (xs : List ℕ) → same xs xs ≡ true
same_self [] = refl
same_self (x ∷ xs) = ap₂ ◌&&◌ (eq-eqb x x refl) (same_self xs)
