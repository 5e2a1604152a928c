-- Parts of a list that are cut where it ends. Assumes nothing.
use Rattle.std.proofs.Common.{◌≡◌, ℕ, ◌+◌, ◌-◌, ◌≤◌, min, List, length, take, drop, sym, ap, ◌∙◌, ⊎_elim, arith, length-drop}
use Rattle.std.proofs.lemmas.List.{take_all, drop_all, take_rest}
use Rattle.std.proofs.lemmas.Bool.{cases_lt}

module _ {X : Type 0} where
  pub drop_clipped : (xs : List X) (p q : ℕ) → q ≡ min p (length xs) → drop q xs ≡ drop p xs
  drop_clipped xs p q e = ⊎_elim
      (λ h. let same : q ≡ p = omega arith in ap (λ n. drop n xs) same)
      (λ h. let low : length xs ≤ q = omega arith in drop_all q xs low ∙ sym (drop_all p xs h))
      (cases_lt p (length xs))

  pub take_clipped : (xs : List X) (n m : ℕ) → m ≡ min n (length xs) → take m xs ≡ take n xs
  take_clipped xs n m e = ⊎_elim
      (λ h. let same : m ≡ n = omega arith in ap (λ k. take k xs) same)
      (λ h. let low : length xs ≤ m = omega arith in take_all m xs low ∙ sym (take_all n xs h))
      (cases_lt n (length xs))

  pub rest_clipped : (xs : List X) (p q : ℕ) → q ≡ min p (length xs) → take (length xs - q) (drop q xs) ≡ drop p xs
  rest_clipped xs p q e = take_rest xs q ∙ drop_clipped xs p q e

  pub part_clipped : (xs : List X) (f n q m : ℕ) → q ≡ min f (length xs) → m ≡ min n (length xs - q) → take (q + m - q) (drop q xs) ≡ take n (drop f xs)
  part_clipped xs f n q m e h =
      let same : q + m - q ≡ m = omega arith in
      let low : m ≡ min n (length (drop q xs)) = h ∙ ap (min n) (sym (length-drop q xs)) in
      ap (λ k. take k (drop q xs)) same ∙ take_clipped (drop q xs) n m low ∙ ap (take n) (drop_clipped xs f q e)
