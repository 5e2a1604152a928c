-- The table of lines in the order of their texts: what a search in it finds, and a line more. Assumes nothing.
use Rattle.std.proofs.Common.{◌≡◌, ℕ, ◌+◌, ◌-◌, ◌<◌, ◌≤◌, Bool, true, false, ◌&&◌, leb, List, [], ◌∷◌, ◌++◌, length, get_or, Result, Ok, Err, Ordering, Less, Equal, Greater, sym, refl, ap, ◌∙◌, subst, ap₂, ⊎_elim, arith}
use Rattle.std.proofs.lemmas.Cmp.{on_total, then_total, nat_list_cmp_total, tied_itself}
use Rattle.std.proofs.lemmas.List.Edits.{length-insert, get_or-insert_below, get_or-insert_at, get_or-insert_above}
use Rattle.std.proofs.lemmas.List.Sorted.{searchable_from_sorted}
use Rattle.std.proofs.lemmas.List.{length_push, get_or_push, get_or_append_left, get_or_default}
use Rattle.std.proofs.lemmas.Bool.{cases_order, cases_lt, and_parts, and_from, leb-true, le-leb, false≢true}
use Rattle.std.proofs.lemmas.Bool.Decides.{nat_tests}
use Rattle.std.specs.List.{insert}
use Rattle.std.specs.List.Sorted.{IsSearchInRange, IsBinarySearchResult}
use Rattle.std.specs.Cmp.{IsTotalOrder}
use Rattle.std.specs.Cmp.Lexicographic.{lists_ties, bytes_decides}
use Rattle.std.specs.Ordering.{is_lt, is_eq, ordering_reverse, ordering_then, nat_cmp}
use Rattle.model.specs.declared.decision.Decision.TheVariants.{Permit, Deny}
use Rattle.model.specs.declared.decision.Status.TheVariants as status
use Rattle.model.specs.Lists.{any, At}
use Rattle.model.proofs.Positions.{at_mem, mem_at, at_below, at_get_d, get_d_at}
use Rattle.model.proofs.Members.{any_some, some_any}
use Rattle.model.specs.Points.{answers}
use Rattle.model.specs.PointFiles.{Line, same_line, first_line}
use Rattle.grants.specs.Order.{by_bytes, compared, no_line, line_at, stands_for, Indexed, Parts, Stands, Placed}
use Rattle.grants.proofs.Meant.{line_is, line_self, first_at, first_nowhere}

-- COMPARING

by_bytes_equal : (s t : List ℕ) → by_bytes s t ≡ Equal → s ≡ t
by_bytes_equal s t h = (bytes_decides s t).0 (lists_ties nat_cmp (λ x y. grind (arith, nat_tests)) s t ∙ ap is_eq h)

both_equal : (a b : Ordering) → ordering_then a b ≡ Equal → (a ≡ Equal) × (b ≡ Equal)
both_equal Less b h = absurd (cc)
both_equal Equal b h = (refl, h)
both_equal Greater b h = absurd (cc)

pub compared_equal : (l m : Line) → compared l m ≡ Equal → l ≡ m
compared_equal l m h =
    let p = both_equal _ _ h in
    let q = both_equal _ _ p.1 in
    let s = by_bytes_equal _ _ p.0 in
    let a = by_bytes_equal _ _ q.0 in
    let r = by_bytes_equal _ _ q.1 in
    λ i. record { subject = s i; action = a i; resource = r i }

compared_total : IsTotalOrder compared
compared_total = then_total (on_total (λ l. l.subject) nat_list_cmp_total) (then_total (on_total (λ l. l.action) nat_list_cmp_total) (on_total (λ l. l.resource) nat_list_cmp_total))

turned : (l m : Line) (o : Ordering) → compared l m ≡ o → compared m l ≡ ordering_reverse o
turned l m o h = compared_total.antisymm m l ∙ ap ordering_reverse h

is_less : (o : Ordering) → is_lt o ≡ true → o ≡ Less
is_less Less h = refl
is_less Equal h = absurd (false≢true h)
is_less Greater h = absurd (false≢true h)

unequal : (o : Ordering) (l m : Line) → compared l m ≡ o → (o ≡ Equal → ⊥) → l ≡ m → ⊥
unequal o l m h f e = f (sym h ∙ ap (λ n. compared n m) e ∙ tied_itself compared_total m)

-- ONE OF THEM

any_where : (p : ℕ → Bool) (xs : List ℕ) → any p xs ≡ true → (i : ℕ) × (i < length xs) × (p (get_or xs i 0) ≡ true)
any_where p xs h =
    let r = any_some p xs h in
    let m = mem_at r.0 xs r.1 in
    (m.0, at_below m.1, ap p (at_get_d 0 m.1) ∙ r.2)

any_there : (p : ℕ → Bool) (xs : List ℕ) (i : ℕ) → i < length xs → p (get_or xs i 0) ≡ true → any p xs ≡ true
any_there p xs i h e = some_any p (get_or xs i 0) xs (at_mem (get_d_at 0 i xs h)) e

same_by : (l q : Line) → l ≡ q → same_line l q ≡ true
same_by l q e = subst (λ m. same_line l m ≡ true) e (line_self l)

-- WHAT A SEARCH FINDS

module _ (lines : List Line) (order : List ℕ) (x : Indexed lines order) (q : Line) where
  abbrev at : ℕ → Line
  at i = line_at lines order i

  later_not_less : (k : ℕ) (d : ℕ) → 0 ≤ k → k + 1 < length order → is_lt (compared (get_or lines (get_or order (k + 1) d) no_line) (get_or lines (get_or order k d) no_line)) ≡ false
  later_not_less k d low h =
      let here = ap (λ n. get_or lines n no_line) (get_or_default order k d 0 (omega arith)) in
      let next = ap (λ n. get_or lines n no_line) (get_or_default order (k + 1) d 0 h) in
      ap₂ (λ l m. is_lt (compared l m)) next here ∙ ap is_lt (turned (at k) (at (k + 1)) Less (is_less _ (x.ascending k (k + 1) (omega arith, h))))

  -- a binary search finds the place
  pub searched : (r : Result ℕ ℕ) → IsSearchInRange r (length order) → IsBinarySearchResult (λ n. compared (get_or lines n no_line) q) order r → Placed lines order q r
  searched (Ok i) h p = record { high = h; here = compared_equal _ _ (p 0) }
  searched (Err i) h p =
      let s = p (searchable_from_sorted compared_total (λ n. get_or lines n no_line) order q later_not_less) in
      record { high = h; below = λ k l. s.0 k 0 (omega arith) l; above = λ k l u. s.1 k 0 l u }

  -- the place in the order of a line like q: its number is no greater
  held : (n : ℕ) → n < length lines → get_or lines n no_line ≡ q → (i : ℕ) × (i < length order) × (get_or order i 0 ≤ n) × (at i ≡ q)
  held n h e =
      let r = any_where (stands_for lines n) order (x.complete n h) in
      let b = and_parts (leb (get_or order r.0 0) n) _ r.2 in
      (r.0, r.1, leb-true _ _ b.0, line_is _ _ b.1 ∙ e)

  pub none_granted : (i : ℕ) → Parts lines order q i → first_line q 0 lines ≡ answers Deny status.Ok 0
  none_granted i p = first_nowhere q 0 lines (λ m a. let j = held m (at_below a) (at_get_d no_line a) in nowhere j.0 j.1 j.3)
    where
      nowhere : (k : ℕ) → k < length order → at k ≡ q → ⊥
      nowhere k h = ⊎_elim
          (λ l. unequal Less (at k) q (p.below k l) (λ e. cc))
          (λ l. unequal Greater (at k) q (p.above k l h) (λ e. cc))
          (cases_lt k i)

  pub first_granted : (i : ℕ) → Stands lines order q i → first_line q 0 lines ≡ answers Permit status.Ok (get_or order i 0)
  first_granted i s =
      let n = get_or order i 0 in
      let z : 0 + n ≡ n = omega arith in
      let here = subst (λ l. At n l lines) s.here (get_d_at no_line n lines (x.inside i s.high)) in
      first_at q 0 n lines here (λ m l a. let j = held m (at_below a) (at_get_d no_line a) in earlier m l j.0 j.1 j.2 j.3) ∙ ap (answers Permit status.Ok) z
    where
      apart : (a b : ℕ) → a < b → b < length order → at a ≡ q → at b ≡ q → ⊥
      apart a b l h e f = unequal Less (at a) (at b) (is_less _ (x.ascending a b (l, h))) (λ e. cc) (e ∙ sym f)

      earlier : (m : ℕ) → m < get_or order i 0 → (j : ℕ) → j < length order → get_or order j 0 ≤ m → at j ≡ q → ⊥
      earlier m l j h k e = ⊎_elim
          (λ s'. let t : get_or order j 0 ≡ get_or order i 0 = ap (λ o. get_or order o 0) s' in omega arith)
          (⊎_elim (λ b. apart j i b s.high e s.here) (λ b. apart i j b h s.here e))
          (cases_order j i)

-- A LINE MORE

module _ (lines : List Line) (t : Line) where
  abbrev grown : List Line
  grown = lines ++ t ∷ []

  old : (m : ℕ) → m < length lines → get_or grown m no_line ≡ get_or lines m no_line
  old m h = get_or_append_left lines (t ∷ []) no_line m h

  new : get_or grown (length lines) no_line ≡ t
  new = get_or_push lines t no_line (length lines) refl

  for_old : (n k : ℕ) → n < length lines → k < length lines → stands_for lines n k ≡ true → stands_for grown n k ≡ true
  for_old n k h g e = ap₂ (λ a b. leb k n && same_line a b) (old k g) (old n h) ∙ e

  for_new : (n k : ℕ) → n ≡ length lines → k ≤ n → get_or grown k no_line ≡ t → stands_for grown n k ≡ true
  for_new n k e l h = and_from (leb k n) _ (le-leb k n l) (same_by _ _ (h ∙ sym (ap (λ m. get_or grown m no_line) e ∙ new)))

  module _ (order : List ℕ) (x : Indexed lines order) where
    same_place : (k : ℕ) → k < length order → line_at grown order k ≡ line_at lines order k
    same_place k h = old (get_or order k 0) (x.inside k h)

    less_by : (a b c d : Line) → a ≡ c → b ≡ d → is_lt (compared c d) ≡ true → is_lt (compared a b) ≡ true
    less_by a b c d p r h = ap₂ (λ v w. is_lt (compared v w)) p r ∙ h

    -- it is not the first of its kind
    pub indexed_again : (i : ℕ) → Stands lines order t i → Indexed grown order
    indexed_again i s = record {
      inside = λ k h. omega (arith, x.inside k h, length_push lines t);
      ascending = λ a b h. less_by _ _ _ _ (same_place a (omega (arith, h.0, h.1))) (same_place b h.1) (x.ascending a b h);
      complete = λ n h. ⊎_elim
          (λ l. let r = any_where (stands_for lines n) order (x.complete n l) in any_there (stands_for grown n) order r.0 r.1 (for_old n (get_or order r.0 0) l (x.inside r.0 r.1) r.2))
          (λ l. let e : n ≡ length lines = omega (arith, length_push lines t) in
          any_there (stands_for grown n) order i s.high (for_new n (get_or order i 0) e (omega (arith, x.inside i s.high)) (same_place i s.high ∙ s.here)))
          (cases_lt n (length lines));
    }

data Slot (i k : ℕ) : Type 0 where
  before : k < i → Slot i k
  here : k ≡ i → Slot i k
  after : (j : ℕ) → k ≡ j + 1 → i ≤ j → Slot i k

slot : (i k : ℕ) → Slot i k
slot i k = ⊎_elim here (⊎_elim before (λ l. after (k - 1) (omega arith) (omega arith))) (cases_order k i)

module _ (lines : List Line) (order : List ℕ) (x : Indexed lines order) (t : Line) (i : ℕ) (p : Parts lines order t i) where
  abbrev n : ℕ
  n = length lines

  abbrev more : List Line
  more = grown lines t

  abbrev next : List ℕ
  next = insert order i n

  long : length next ≡ length order + 1
  long = length-insert order i n p.high

  number_before : (k : ℕ) → k < i → get_or next k 0 ≡ get_or order k 0
  number_before k l = get_or-insert_below order i n 0 k l p.high

  number_here : get_or next i 0 ≡ n
  number_here = get_or-insert_at order i n 0 p.high

  number_after : (k : ℕ) → i ≤ k → get_or next (k + 1) 0 ≡ get_or order k 0
  number_after k l = get_or-insert_above order i n 0 k l p.high

  line_before : (k : ℕ) → k < i → line_at more next k ≡ line_at lines order k
  line_before k l = ap (λ j. get_or more j no_line) (number_before k l) ∙ same_place lines t order x k (omega (arith, p.high))

  line_here : line_at more next i ≡ t
  line_here = ap (λ j. get_or more j no_line) number_here ∙ new lines t

  line_after : (k : ℕ) → i ≤ k → k < length order → line_at more next (k + 1) ≡ line_at lines order k
  line_after k l h = ap (λ j. get_or more j no_line) (number_after k l) ∙ same_place lines t order x k h

  rises : (a b c d : Line) → a ≡ c → b ≡ d → is_lt (compared c d) ≡ true → is_lt (compared a b) ≡ true
  rises = less_by lines t order x

  rising : (a b : ℕ) → a < b → b < length next → Slot i a → Slot i b → is_lt (compared (line_at more next a) (line_at more next b)) ≡ true
  rising a b l h (before u) (before v) = rises _ _ _ _ (line_before a u) (line_before b v) (x.ascending a b (l, omega (arith, p.high)))
  rising a b l h (before u) (here v) = rises _ _ _ _ (line_before a u) (ap (line_at more next) v ∙ line_here) (ap is_lt (p.below a u))
  rising a b l h (before u) (after j v r) =
      let low : j < length order = omega (arith, long) in
      rises _ _ _ _ (line_before a u) (ap (line_at more next) v ∙ line_after j r low) (x.ascending a j (omega arith, low))
  rising a b l h (here u) (before v) = absurd (omega arith)
  rising a b l h (here u) (here v) = absurd (omega arith)
  rising a b l h (here u) (after j v r) =
      let low : j < length order = omega (arith, long) in
      rises _ _ _ _ (ap (line_at more next) u ∙ line_here) (ap (line_at more next) v ∙ line_after j r low) (ap is_lt (turned (line_at lines order j) t Greater (p.above j r low)))
  rising a b l h (after j u r) (before v) = absurd (omega arith)
  rising a b l h (after j u r) (here v) = absurd (omega arith)
  rising a b l h (after j u r) (after m v s) =
      let low : m < length order = omega (arith, long) in
      rises _ _ _ _ (ap (line_at more next) u ∙ line_after j r (omega arith)) (ap (line_at more next) v ∙ line_after m s low) (x.ascending j m (omega arith, low))

  number_inside : (k : ℕ) → k < length next → Slot i k → get_or next k 0 < length more
  number_inside k h (before l) = omega (arith, number_before k l, x.inside k (omega (arith, p.high)), length_push lines t)
  number_inside k h (here e) = omega (arith, ap (λ j. get_or next j 0) e, number_here, length_push lines t)
  number_inside k h (after j e l) = omega (arith, ap (λ m. get_or next m 0) e, number_after j l, x.inside j (omega (arith, long)), length_push lines t)

  -- what stands in the order, stands in the next
  kept : (m k : ℕ) → k < length order → stands_for more m (get_or order k 0) ≡ true → any (stands_for more m) next ≡ true
  kept m k h e = ⊎_elim
      (λ l. any_there (stands_for more m) next k (omega (arith, long)) (ap (stands_for more m) (number_before k l) ∙ e))
      (λ l. any_there (stands_for more m) next (k + 1) (omega (arith, long)) (ap (stands_for more m) (number_after k l) ∙ e))
      (cases_lt k i)

  every : (m : ℕ) → m < length more → any (stands_for more m) next ≡ true
  every m h = ⊎_elim
      (λ l. let r = any_where (stands_for lines m) order (x.complete m l) in kept m r.0 r.1 (for_old lines t m (get_or order r.0 0) l (x.inside r.0 r.1) r.2))
      (λ l. let e : m ≡ n = omega (arith, length_push lines t) in
      any_there (stands_for more m) next i (omega (arith, long, p.high)) (for_new lines t m (get_or next i 0) e (omega (arith, number_here)) line_here))
      (cases_lt m n)

  pub indexed_more : Indexed more next
  indexed_more = record {
    inside = λ k h. number_inside k h (slot i k);
    ascending = λ a b h. rising a b h.0 h.1 (slot i a) (slot i b);
    complete = every;
  }

pub indexed_none : Indexed [] []
indexed_none = record {
  inside = λ k h. absurd (omega arith);
  ascending = λ a b h. absurd (omega arith);
  complete = λ n h. absurd (omega arith);
}
