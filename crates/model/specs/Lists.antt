-- Words on lists. Assumes nothing.
use Rattle.std.specs.Prelude.{ℕ, zero, suc, ◌+◌, Bool, false, cond, ◌||◌, List, [], ◌∷◌, Some, None, Option}

-- COMPUTED

-- n numbers from i on
abbrev pub upto : ℕ → ℕ → List ℕ
upto i zero = []
upto i (suc n) = i ∷ upto (i + 1) n

abbrev pub any : (ℕ → Bool) → List ℕ → Bool
any p [] = false
any p (x ∷ xs) = p x || any p xs

module _ {A : Type 0} where
  abbrev pub keep : (A → Bool) → List A → List A
  keep p [] = []
  keep p (x ∷ xs) = cond (p x) (x ∷ keep p xs) (keep p xs)

  -- the first that passes
  abbrev pub found : (A → Bool) → List A → Option A
  found p [] = None
  found p (x ∷ xs) = cond (p x) (Some x) (found p xs)

  abbrev pub nth : List A → ℕ → Option A
  nth [] n = None
  nth (x ∷ xs) zero = Some x
  nth (x ∷ xs) (suc n) = nth xs n

  abbrev pub total_over : (A → ℕ) → List A → ℕ
  total_over f [] = 0
  total_over f (x ∷ xs) = f x + total_over f xs

-- RELATED

-- x stands at number n of a list
pub data At {A : Type 0} : ℕ → A → List A → Type 0 where
  first : {x : A} {xs : List A} → At zero x (x ∷ xs)
  later : {x y : A} {xs : List A} {n : ℕ} → At n x xs → At (suc n) x (y ∷ xs)

-- two lists, as long as each other, related place by place
pub data Pairwise {A B : Type 0} (R : A → B → Type 0) : List A → List B → Type 0 where
  none : Pairwise R [] []
  both : {x : A} {y : B} {xs : List A} {ys : List B} → R x y → Pairwise R xs ys → Pairwise R (x ∷ xs) (y ∷ ys)
