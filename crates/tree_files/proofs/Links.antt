-- The links of a tree: what a search in them finds, and links in another order. Assumes nothing.
use Rattle.std.proofs.Common.{◌≡◌, ℕ, zero, suc, ◌+◌, ◌<◌, ◌≤◌, Bool, true, false, ◌&&◌, eqb, List, [], ◌∷◌, ◌++◌, length, get_or, Some, None, Ordering, Less, Equal, Greater, sym, refl, ap, ◌∙◌, subst, ap₂, ⊎_elim, arith}
use mathlib.Core.Path.{fun_ext}
use Rattle.std.proofs.lemmas.List.{get_or_default, length_push, get_or_push, get_or_append_left}
use Rattle.std.proofs.lemmas.List.Sorted.{sorted_far, searchable_from_sorted, IsPermutation-sym}
use Rattle.std.proofs.ByRecursion.{has_shuffled}
use Rattle.std.proofs.lemmas.List.MinMax.{ranks_by}
use Rattle.std.proofs.lemmas.Bool.{and_from, eqb-true, eq-eqb, or_left, or_right, cases_lt, true≢false, false≢true, false_from_ne_true}
use Rattle.std.proofs.lemmas.Cmp.{is_lt_index}
use Rattle.std.specs.Cmp.{both_ways, IsTotalOrder, ranks, then_total, on_total, nat_cmp_total}
use Rattle.std.specs.Ordering.{is_lt, ordering_index, ordering_then, MatchOrdering, nat_cmp}
use Rattle.std.specs.List.Sorted.{IsPartitionedBy, IsPartitionPoint, IsPermutation, IsSortedWithin}
use Rattle.std.specs.List.{ContainsAt as Has}
use Rattle.model.specs.TreeFiles.{has_link}
use Rattle.tree.proofs.Firsts.{Least, none_passes, least_is}
use Rattle.tree_files.specs.Limited.{link_at, is_less}
use Rattle.tree_files.specs.Links.{Ends, link_less, LinkAscending}

pub ends_push : (n : ℕ) (ls : List (ℕ × ℕ)) (l : ℕ × ℕ) → Ends n ls → l.0 < n → l.1 < n → Ends n (ls ++ l ∷ [])
ends_push n ls l h p c i b =
    let P : ℕ × ℕ → Type 0 = λ k. (k.0 < n) × (k.1 < n) in
    ⊎_elim {C = P (get_or (ls ++ l ∷ []) i (0, 0))}
    (λ s. subst P (sym (get_or_append_left ls (l ∷ []) (0, 0) i s)) (h i s))
    (λ s. let e : length ls ≡ i = omega (arith, length_push ls l) in subst P (sym (get_or_push ls l (0, 0) i e)) (p, c))
    (cases_lt i (length ls))

pub has_here : (ls : List (ℕ × ℕ)) (i p c : ℕ) → i < length ls → (get_or ls i (0, 0)).0 ≡ p → (get_or ls i (0, 0)).1 ≡ c → has_link ls p c ≡ true
has_here [] i p c h e f = absurd (omega arith)
has_here (l ∷ ls) zero p c h e f = or_left (eqb l.0 p && eqb l.1 c) (has_link ls p c) (and_from (eqb l.0 p) (eqb l.1 c) (eq-eqb l.0 p e) (eq-eqb l.1 c f))
has_here (l ∷ ls) (suc i) p c h e f = or_right (eqb l.0 p && eqb l.1 c) (has_link ls p c) (has_here ls i p c (omega arith) e f)

-- LINKS IN ANOTHER ORDER

module _ (ls ks : List (ℕ × ℕ)) (s : IsPermutation ls ks) where
  moved : (p c : ℕ) → has_link ls p c ≡ true → has_link ks p c ≡ true
  moved p c h =
      let r = link_at ls p c h in
      let there : Has ls (get_or ls r.0 (0, 0)) = (r.0, r.1, λ d. get_or_default ls r.0 d (0, 0) r.1) in
      let m = has_shuffled ls ks (get_or ls r.0 (0, 0)) s there in
      let e : get_or ks m.0 (0, 0) ≡ get_or ls r.0 (0, 0) = m.2 (0, 0) in
      has_here ks m.0 p c m.1 (ap (λ (l : ℕ × ℕ). l.0) e ∙ r.2) (ap (λ (l : ℕ × ℕ). l.1) e ∙ r.3)

module _ (ls ks : List (ℕ × ℕ)) (s : IsPermutation ls ks) where
  pub same_links : has_link ls ≡ has_link ks
  same_links = fun_ext (λ p. fun_ext (λ c. both_ways (has_link ls p c) (has_link ks p c) (moved ls ks s p c) (moved ks ls (IsPermutation-sym ls ks s) p c)))

  pub ends_shuffled : (n : ℕ) → Ends n ls → Ends n ks
  ends_shuffled n h i l =
      let there : Has ks (get_or ks i (0, 0)) = (i, l, λ d. get_or_default ks i d (0, 0) l) in
      let m = has_shuffled ks ls (get_or ks i (0, 0)) (IsPermutation-sym ls ks s) there in
      let P : ℕ × ℕ → Type 0 = λ k. (k.0 < n) × (k.1 < n) in
      subst P (m.2 (0, 0)) (h m.0 m.1)

-- THE LEAST CHILD

-- as the library says it
ascends : (ls : List (ℕ × ℕ)) → LinkAscending ls → IsSortedWithin link_less ls 0 (length ls)
ascends ls up k d l h =
    ap₂ link_less (get_or_default ls (k + 1) d (0, 0) h) (get_or_default ls k d (0, 0) (omega arith)) ∙ up k h

pub ascending_from : (ls : List (ℕ × ℕ)) (n : ℕ) → n ≡ length ls → IsSortedWithin link_less ls 0 n → LinkAscending ls
ascending_from ls n e up k h = up k (0, 0) (omega arith) (omega arith)

abbrev order_of : ℕ × ℕ → ℕ × ℕ → Ordering
order_of k l = ordering_then (nat_cmp k.0 l.0) (nat_cmp k.1 l.1)

data Compared (k l : ℕ × ℕ) : Ordering → Type 0 where
  by_parent_less : k.0 < l.0 → Compared k l Less
  by_child_less : k.0 ≡ l.0 → k.1 < l.1 → Compared k l Less
  alike : k.0 ≡ l.0 → k.1 ≡ l.1 → Compared k l Equal
  by_child_greater : k.0 ≡ l.0 → l.1 < k.1 → Compared k l Greater
  by_parent_greater : l.0 < k.0 → Compared k l Greater

compared_links : (k l : ℕ × ℕ) → Compared k l (order_of k l)
compared_links k l = first (nat_cmp k.0 l.0) (ranks k.0 l.0)
  where
    second : k.0 ≡ l.0 → (o : Ordering) → MatchOrdering o (k.1 < l.1) (k.1 ≡ l.1) (l.1 < k.1) → Compared k l o
    second e Less h = by_child_less e h
    second e Equal h = alike e h
    second e Greater h = by_child_greater e h

    first : (o : Ordering) → MatchOrdering o (k.0 < l.0) (k.0 ≡ l.0) (l.0 < k.0) → Compared k l (ordering_then o (nat_cmp k.1 l.1))
    first Less h = by_parent_less h
    first Equal h = second h (nat_cmp k.1 l.1) (ranks k.1 l.1)
    first Greater h = by_parent_greater h

total : IsTotalOrder order_of
total = then_total (on_total (λ (p : ℕ × ℕ). p.0) nat_cmp_total) (on_total (λ (p : ℕ × ℕ). p.1) nat_cmp_total)

as_told : (k l : ℕ × ℕ) (o : Ordering) → order_of k l ≡ o → Compared k l o
as_told k l o e = subst (Compared k l) e (compared_links k l)

less_child : {k l : ℕ × ℕ} → Compared k l Less → k.0 ≡ l.0 → k.1 < l.1
less_child (by_parent_less h) e = absurd (omega arith)
less_child (by_child_less p h) e = h

-- not less: at or above
not_less : {k l : ℕ × ℕ} {o : Ordering} → Compared k l o → is_lt o ≡ false → (l.0 ≤ k.0) × (k.0 ≡ l.0 → l.1 ≤ k.1)
not_less (by_parent_less h) e = absurd (true≢false e)
not_less (by_child_less p h) e = absurd (true≢false e)
not_less (alike p c) e = (omega arith, λ q. omega arith)
not_less (by_child_greater p h) e = (omega arith, λ q. omega arith)
not_less (by_parent_greater h) e = (omega arith, λ q. absurd (omega arith))

module _ (ls : List (ℕ × ℕ)) (up : LinkAscending ls) (node from : ℕ) where
  abbrev key : ℕ × ℕ
  key = (node, from)

  abbrev link : ℕ → ℕ × ℕ
  link i = get_or ls i (0, 0)

  far : (i j : ℕ) → i ≤ j → j < length ls → ((link i).0 ≤ (link j).0) × ((link j).0 ≡ (link i).0 → (link i).1 ≤ (link j).1)
  far i j l h = not_less (compared_links (link j) (link i)) (sorted_far link_less (ranks_by total (λ (k : ℕ × ℕ). k)) ls (ascends ls up) i j (0, 0) l h)

  -- what `partition_point` asks
  pub less_first : IsPartitionedBy (λ y. link_less y (node, from)) ls
  less_first i j d l h e =
      let r = searchable_from_sorted total (λ (k : ℕ × ℕ). k) ls key (ascends ls up) i j d l h in
      let z = eqb-true (ordering_index (order_of (get_or ls j d) key)) 0 (sym (is_lt_index (order_of (get_or ls j d) key)) ∙ e) in
      is_lt_index (order_of (get_or ls i d) key) ∙ eq-eqb (ordering_index (order_of (get_or ls i d) key)) 0 (omega arith)

  module _ (i : ℕ) (p : IsPartitionPoint (λ y. link_less y (node, from) ≡ true) (λ y. link_less y (node, from) ≡ false) ls i) where
    below : (k : ℕ) → k < i → (link k).0 ≡ node → (link k).1 < from
    below k h e = less_child (as_told (link k) key Less (is_less _ (p.0 k (0, 0) (omega arith) h))) e

    pub least_next : i < length ls → (link i).0 ≡ node → Least (has_link ls node) from (Some (link i).1)
    least_next h e =
        let low : from ≤ (link i).1 = (not_less (compared_links (link i) key) (p.1 i (0, 0) (omega arith) h)).1 e in
        least_is low (has_here ls i node (link i).1 h e refl) (λ c l m. false_from_ne_true (has_link ls node c) (λ t.
        let r = link_at ls node c t in
        ⊎_elim (λ k. omega (arith, below r.0 k r.2, r.3)) (λ k. omega (arith, (far i r.0 k r.1).1 (r.2 ∙ sym e), r.3)) (cases_lt r.0 i)))

    pub least_other : i < length ls → ((link i).0 ≡ node → ⊥) → Least (has_link ls node) from None
    least_other h ne =
        let g = (not_less (compared_links (link i) key) (p.1 i (0, 0) (omega arith) h)).0 in
        none_passes (λ c l. false_from_ne_true (has_link ls node c) (λ t.
        let r = link_at ls node c t in
        ⊎_elim (λ k. omega (arith, below r.0 k r.2, r.3)) (λ k. ne (omega (arith, (far i r.0 k r.1).0, r.2, g))) (cases_lt r.0 i)))

    pub least_past : length ls ≤ i → Least (has_link ls node) from None
    least_past h = none_passes (λ c l. false_from_ne_true (has_link ls node c) (λ t. let r = link_at ls node c t in omega (arith, below r.0 (omega (arith, r.1)) r.2, r.3)))
