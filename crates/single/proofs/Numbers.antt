-- Elements by their numbers. Assumes nothing.
use Rattle.std.proofs.Common.{◌≡◌, ℕ, zero, suc, ◌<◌, ◌≤◌, min, Bool, true, false, ◌&&◌, ltb, leb, List, [], ◌∷◌, length, take, Some, None, sym, refl, ap, ◌∙◌, ap₂, ⊎_elim, arith}
use Rattle.std.specs.List.{list_all}
use Rattle.std.proofs.lemmas.Bool.{cases_lt, le-leb, leb-true, leb-false}
use Rattle.std.proofs.lemmas.Bool.Decides.{nat_tests}
use Rattle.model.specs.Content.{Element}
use Rattle.model.specs.Lists.{nth}
use Rattle.wire.proofs.Clipped.{take_clipped}
use Rattle.single.specs.Numbers.{past, blank, picked, before, all_at}
use Rattle.single.proofs.Places.{nth_get_d, nth_past}

pub all_past : (ks : List ℕ) (n : ℕ) → list_all (λ k. ltb k n) ks ≡ leb (past ks) n
all_past [] n = sym (le-leb 0 n (omega arith))
all_past (k ∷ ks) n = ap (λ b. ltb k n && b) (all_past ks n) ∙ grind (arith, nat_tests)

module _ (es : List Element) where
  pub all_there : (ks : List ℕ) → past ks ≤ length es → all_at es ks ≡ Some (picked es ks)
  all_there [] h = refl
  all_there (k ∷ ks) h =
      let here : k < length es = omega arith in
      let rest : past ks ≤ length es = omega arith in
      ap₂ before (nth_get_d es k blank here) (all_there ks rest)

  pub one_absent : (ks : List ℕ) → length es < past ks → all_at es ks ≡ None
  one_absent [] h = absurd (omega arith)
  one_absent (k ∷ ks) h =
      ⊎_elim
      (λ here. let rest : length es < past ks = omega arith in ap₂ before (nth_get_d es k blank here) (one_absent ks rest))
      (λ out. ap (λ o. before o (all_at es ks)) (nth_past es k out))
      (cases_lt k (length es))

  -- each of the numbers names an element
  pub named_in : (ks : List ℕ) (i n : ℕ) → past ks ≤ length es → Some n ≡ nth ks i → n < length es
  named_in [] i n h e = cc
  named_in (k ∷ ks) zero n h e = let same : n ≡ k = cc in omega arith
  named_in (k ∷ ks) (suc i) n h e = let rest : past ks ≤ length es = omega arith in named_in ks i n rest e

-- the first numbers of a choice, cut where it ends; `b` is what the test of them told
module _ (es : List Element) (chosen : List ℕ) (count m k n : ℕ) (b : Bool) (cut : m ≡ min count (length chosen)) (same : k ≡ m) (long : n ≡ length es) (test : b ≡ leb (past (take k chosen)) n) where
  tested : b ≡ leb (past (take m chosen)) (length es)
  tested = test ∙ ap₂ (λ i j. leb (past (take i chosen)) j) same long

  pub chosen_below : b ≡ true → past (take m chosen) ≤ length es
  chosen_below is = leb-true _ _ (sym tested ∙ is)

  pub chosen_there : b ≡ true → Some (picked es (take m chosen)) ≡ all_at es (take count chosen)
  chosen_there is = sym (all_there es (take m chosen) (chosen_below is)) ∙ ap (all_at es) (take_clipped chosen count m cut)

  pub chosen_absent : b ≡ false → None ≡ all_at es (take count chosen)
  chosen_absent is = sym (one_absent es (take m chosen) (leb-false _ _ (sym tested ∙ is))) ∙ ap (all_at es) (take_clipped chosen count m cut)
