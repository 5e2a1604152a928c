-- The test whether two values are equal decides whether they are. Assumes nothing.
use Rattle.std.proofs.Common.{◌≡◌, ℕ, true, false, eqb, List, [], ◌∷◌, refl, subst, ⊎_elim}
use Rattle.std.proofs.lemmas.Bool.{both_ways, and_parts, and_from, eqb-true, eq-eqb, cases_Bool, false≢true}
use Rattle.model.specs.Values.{Same, same}

same_itself : (t : List ℕ) → same t t ≡ true
same_itself [] = refl
same_itself (x ∷ xs) = and_from (eqb x x) (same xs xs) (eq-eqb x x refl) (same_itself xs)

pub same_true : (x y : List ℕ) → same x y ≡ true → Same x y
same_true [] [] e = refl
same_true [] (y ∷ ys) e = absurd (false≢true e)
same_true (x ∷ xs) [] e = absurd (false≢true e)
same_true (x ∷ xs) (y ∷ ys) e = let h = and_parts (eqb x y) (same xs ys) e in rw (eqb-true x y h.0, same_true xs ys h.1)

pub same_false : (x y : List ℕ) → same x y ≡ false → Same x y → ⊥
same_false x y e q = both_ways (same x y) e (subst (λ z. same x z ≡ true) q (same_itself x))

pub not_same : (x y : List ℕ) → (Same x y → ⊥) → same x y ≡ false
not_same x y n = ⊎_elim (λ e. absurd (n (same_true x y e))) (λ e. e) (cases_Bool (same x y))
