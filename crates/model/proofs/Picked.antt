-- What a choice takes of a reference: at least one element, and of no category two. Assumes nothing.
use Rattle.std.proofs.Common.{◌≡◌, ℕ, ◌+◌, ◌<◌, ◌≤◌, Bool, true, false, cond, eqb, List, [], ◌∷◌, length, sym, refl, subst, ⊎_elim, arith}
use mathlib.Core.List.Memᴰ
use mathlib.Core.List.{Memᴰ}
use Rattle.std.proofs.lemmas.Bool.{eqb-true, eqb-false, eq-eqb, ne_eqb, cond-true, cond-false}
use Rattle.model.specs.Order.{Sorted}
use Rattle.model.specs.Lists.{keep}
use Rattle.model.specs.Rows.{Listed, category_of, of_category, categories, width, widths, taken, occurrences, in_turn, picked, chosen}
use Rattle.model.proofs.Choices.{Within}

-- of two categories
abbrev pub Apart : Listed → Listed → Type 0
Apart l m = category_of l ≡ category_of m → ⊥

occurrences_more : (c x : ℕ) (xs : List ℕ) → occurrences c xs ≤ occurrences c (x ∷ xs)
occurrences_more c x xs = step (eqb x c)
  where
    step : (b : Bool) → occurrences c xs ≤ cond b (1 + occurrences c xs) (occurrences c xs)
    step true = omega arith
    step false = omega arith

occurrences_same : (c x : ℕ) (xs : List ℕ) → x ≡ c → occurrences c (x ∷ xs) ≡ 1 + occurrences c xs
occurrences_same c x xs e = cond-true (eqb x c) (1 + occurrences c xs) (occurrences c xs) (eq-eqb x c e)

occurrences_other : (c x : ℕ) (xs : List ℕ) → (x ≡ c → ⊥) → occurrences c (x ∷ xs) ≡ occurrences c xs
occurrences_other c x xs e = cond-false (eqb x c) (1 + occurrences c xs) (occurrences c xs) (ne_eqb x c e)

module _ (cs ps : List ℕ) where
  -- what is picked after an element
  abbrev onward : List ℕ → Listed → List Listed → List Listed
  onward earlier l ls = picked cs ps (category_of l ∷ earlier) ls

  mem_step : (m l : Listed) (rest ls : List Listed) (b : Bool) → (Memᴰ m rest → Memᴰ m ls) → Memᴰ m (cond b (l ∷ rest) rest)
      → Memᴰ m (l ∷ ls)
  mem_step m l rest ls true f h = ⊎_elim (λ e. Memᴰ.head e) (λ t. Memᴰ.tail (f t)) (Memᴰ.cases_cons h)
  mem_step m l rest ls false f h = Memᴰ.tail (f h)

  pub mem_picked : (earlier : List ℕ) (ls : List Listed) (m : Listed) → Memᴰ m (picked cs ps earlier ls) → Memᴰ m ls
  mem_picked earlier [] m h = h
  mem_picked earlier (l ∷ ls) m h = mem_step m l (onward earlier l ls) ls (in_turn cs ps earlier l) (mem_picked (category_of l ∷ earlier) ls m) h

  length_step : (l : Listed) (rest ls : List Listed) (b : Bool) → length rest ≤ length ls → length (cond b (l ∷ rest) rest) ≤ length (l ∷ ls)
  length_step l rest ls true h = omega arith
  length_step l rest ls false h = omega arith

  pub length_picked : (earlier : List ℕ) (ls : List Listed) → length (picked cs ps earlier ls) ≤ length ls
  length_picked earlier [] = omega arith
  length_picked earlier (l ∷ ls) = length_step l (onward earlier l ls) ls (in_turn cs ps earlier l) (length_picked (category_of l ∷ earlier) ls)

  -- what is picked stands no earlier than its place
  picked_after : (earlier : List ℕ) (ls : List Listed) (m : Listed) → Memᴰ m (picked cs ps earlier ls)
      → occurrences (category_of m) earlier ≤ taken cs ps (category_of m)
  picked_after earlier [] m h = absurd (Memᴰ.not-nil h)
  picked_after earlier (l ∷ ls) m h = step (in_turn cs ps earlier l) refl (picked_after (category_of l ∷ earlier) ls m) h
    where
      step : (b : Bool) → in_turn cs ps earlier l ≡ b
          → (Memᴰ m (onward earlier l ls) → occurrences (category_of m) (category_of l ∷ earlier) ≤ taken cs ps (category_of m))
          → Memᴰ m (cond b (l ∷ onward earlier l ls) (onward earlier l ls))
          → occurrences (category_of m) earlier ≤ taken cs ps (category_of m)
      step true e f n = ⊎_elim
          (λ q. subst (λ k. occurrences (category_of k) earlier ≤ taken cs ps (category_of k)) (sym q)
          (omega (arith, eqb-true (occurrences (category_of l) earlier) (taken cs ps (category_of l)) e)))
          (λ t. omega (arith, f t, occurrences_more (category_of m) (category_of l) earlier)) (Memᴰ.cases_cons n)
      step false e f n = omega (arith, f n, occurrences_more (category_of m) (category_of l) earlier)

  -- of no category two
  pub apart_picked : (earlier : List ℕ) (ls : List Listed) → Sorted Apart (picked cs ps earlier ls)
  apart_picked earlier [] = tt
  apart_picked earlier (l ∷ ls) = step (in_turn cs ps earlier l) refl (apart_picked (category_of l ∷ earlier) ls)
    where
      step : (b : Bool) → in_turn cs ps earlier l ≡ b → Sorted Apart (onward earlier l ls)
          → Sorted Apart (cond b (l ∷ onward earlier l ls) (onward earlier l ls))
      step true e s = (
        λ m h q.
            let a = picked_after (category_of l ∷ earlier) ls m h in
            let b = occurrences_same (category_of l) (category_of l) earlier refl in
            let c : occurrences (category_of l) (category_of l ∷ earlier) ≤ taken cs ps (category_of l) =
            subst (λ k. occurrences k (category_of l ∷ earlier) ≤ taken cs ps k) (sym q) a in
            omega (arith, eqb-true (occurrences (category_of l) earlier) (taken cs ps (category_of l)) e),
        s,
      )
      step false e s = s

  -- the element of category c at its place is picked
  some_picked : (c : ℕ) (earlier : List ℕ) (ls : List Listed) → occurrences c earlier ≤ taken cs ps c
      → taken cs ps c < occurrences c earlier + width ls c → 1 ≤ length (picked cs ps earlier ls)
  some_picked c earlier [] h k = absurd (omega arith)
  some_picked c earlier (l ∷ ls) h k = step (in_turn cs ps earlier l) refl (eqb (category_of l) c) refl k (some_picked c (category_of l ∷ earlier) ls)
    where
      step : (b : Bool) → in_turn cs ps earlier l ≡ b → (d : Bool) → eqb (category_of l) c ≡ d
          → taken cs ps c < occurrences c earlier + length (cond d (l ∷ keep (of_category c) ls) (keep (of_category c) ls))
          → (occurrences c (category_of l ∷ earlier) ≤ taken cs ps c → taken cs ps c < occurrences c (category_of l ∷ earlier) + width ls c
          → 1 ≤ length (onward earlier l ls))
          → 1 ≤ length (cond b (l ∷ onward earlier l ls) (onward earlier l ls))
      step true e d q k f = omega arith
      step false e true q k f =
          let same = eqb-true (category_of l) c q in
          let o = occurrences_same c (category_of l) earlier same in
          let n : occurrences c earlier ≡ taken cs ps c → ⊥ = λ z.
          eqb-false (occurrences (category_of l) earlier) (taken cs ps (category_of l)) e
          (subst (λ x. occurrences x earlier ≡ taken cs ps x) (sym same) z) in
          f (omega arith) (omega arith)
      step false e false q k f = let o = occurrences_other c (category_of l) earlier (eqb-false (category_of l) c q) in f (omega arith) (omega arith)

-- of a reference that lists something, something is chosen
pub some_chosen : (ls : List Listed) (ps : List ℕ) → 1 ≤ length ls → Within ps (widths ls) → 1 ≤ length (chosen ls ps)
some_chosen [] ps h c = absurd (omega arith)
some_chosen (l ∷ ls) ps h (Within.one_more {p} {ps = qs} k c) =
    let d = category_of l in
    let rest = categories (d ∷ []) ls in
    let t : taken (d ∷ rest) (p ∷ qs) d ≡ p = cond-true (eqb d d) p (taken rest qs d) (eq-eqb d d refl) in
    some_picked (categories [] (l ∷ ls)) (p ∷ qs) (category_of l) [] (l ∷ ls) (omega arith) (omega arith)
