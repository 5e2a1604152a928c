-- The steps of the loop that gathers a level. Assumes nothing.
use Rattle.std.proofs.Common.{◌≡◌, ℕ, ◌+◌, ◌<◌, Bool, true, false, cond, not, ◌&&◌, ◌||◌, ltb, List, [], ◌∷◌, ◌++◌, length, get_or, set, count_by, sym, ap, ◌∙◌, subst, ⊎_elim, add-one, arith}
use Rattle.std.proofs.lemmas.List.{append-nil, append_assoc, map-append, length-set, get_or-set_same, get_or-set_other}
use Rattle.std.proofs.lemmas.List.Sums.{sum_by-set, count_by-le-length}
use Rattle.std.proofs.lemmas.Bool.{lt-ltb, le-ltb, and_left, and_from, cases_lt, cases_eq, cond-true, cond-false, or_right, not_from_false}
use Rattle.std.proofs.Math.Bool.{or-false}
use Rattle.model.specs.Lists.{upto, keep}
use Rattle.tree.specs.declared.reach.Reached.{Reached}
use Rattle.tree.specs.Reached.{at_distance, all_at, fresh}
use Rattle.tree.proofs.Bools.{absorb, keep_push, upto_more}
use Rattle.tree.proofs.Firsts.{below}

-- one more mark is set, so that a mark is left before
module _ (seen : List Bool) (i : ℕ) (long : length seen ≡ 1024) (within : i < 1024) (unset : get_or seen i false ≡ false) where
  pub one_more : count_by (λ b. b) (set seen i true) ≡ count_by (λ b. b) seen + 1
  one_more =
      let inside : i < length seen = omega arith in
      let zero_there : ◌≡◌ {A = ℕ} (cond (get_or seen i false) 1 0) 0 = cond-false (get_or seen i false) 1 0 unset in
      omega (arith, sum_by-set (λ b. cond b 1 0) seen i true false inside, zero_there)

  pub room_left : count_by (λ b. b) seen < 1024
  room_left = omega (arith, one_more, count_by-le-length (λ b. b) (set seen i true), length-set seen i true)

below_here : (p : ℕ → Bool) (i : ℕ) → below p i i ≡ false
below_here p i = and_left (ltb i i) (p i) (le-ltb i i (omega arith))

below_next : (p : ℕ → Bool) (i : ℕ) → below p (i + 1) i ≡ p i
below_next p i = ap (λ x. x && p i) (lt-ltb i (i + 1) (omega arith))

below_other : (p : ℕ → Bool) (i k : ℕ) → (k ≡ i → ⊥) → below p i k ≡ below p (i + 1) k
below_other p i k ne =
    ap (λ x. x && p k) (⊎_elim (λ h. lt-ltb k i h ∙ sym (lt-ltb k (i + 1) (omega arith))) (λ h. le-ltb k i h ∙ sym (le-ltb k (i + 1) (omega arith))) (cases_lt k i))

pub record Gathered (d : ℕ) (nodes₀ nodes : List Reached) (seen₀ seen found₀ found : List Bool) (i : ℕ) : Type 0 where
  pub nodes_are : nodes ≡ nodes₀ ++ all_at d (keep (fresh found₀ seen₀) (upto 0 i))
  pub seen_are : (k : ℕ) → k < 1024 → get_or seen k false ≡ (get_or seen₀ k false || below (λ n. get_or found₀ n false) i k)
  pub found_are : found ≡ found₀

module _ {d : ℕ} {nodes₀ nodes : List Reached} {seen₀ seen found₀ found : List Bool} {i : ℕ} (r : Gathered d nodes₀ nodes seen₀ seen found₀ found i) (within : i < 1024) where
  seen_here : get_or seen i false ≡ get_or seen₀ i false
  seen_here =
      r.seen_are i within ∙ ap (λ x. get_or seen₀ i false || x) (below_here (λ n. get_or found₀ n false) i) ∙ or-false (get_or seen₀ i false)

  fresh_here : fresh found seen i ≡ fresh found₀ seen₀ i
  fresh_here = ap (λ x. x && not (get_or seen i false)) (ap (λ l. get_or l i false) r.found_are) ∙ ap (λ x. get_or found₀ i false && not x) seen_here

  kept_more : all_at d (keep (fresh found₀ seen₀) (upto 0 (i + 1))) ≡ all_at d (keep (fresh found₀ seen₀) (upto 0 i)) ++ all_at d (cond (fresh found₀ seen₀ i) (i ∷ []) [])
  kept_more =
      let e : 0 + i ≡ i = omega arith in
      let more : upto 0 (i + 1) ≡ upto 0 i ++ i ∷ [] = ap (upto 0) (add-one i) ∙ upto_more 0 i ∙ ap (λ (k : ℕ). upto 0 i ++ k ∷ []) e in
      ap (λ l. all_at d (keep (fresh found₀ seen₀) l)) more
      ∙ ap (all_at d) (keep_push (fresh found₀ seen₀) (upto 0 i) i)
      ∙ map-append (at_distance d) (keep (fresh found₀ seen₀) (upto 0 i)) (cond (fresh found₀ seen₀ i) (i ∷ []) [])

  pub gathered_no : fresh found seen i ≡ false → Gathered d nodes₀ nodes seen₀ seen found₀ found (i + 1)
  gathered_no e = record { nodes_are = same; seen_are = marks; found_are = r.found_are }
    where
      stale : fresh found₀ seen₀ i ≡ false
      stale = sym fresh_here ∙ e

      same : nodes ≡ nodes₀ ++ all_at d (keep (fresh found₀ seen₀) (upto 0 (i + 1)))
      same =
          r.nodes_are
          ∙ ap (λ l. nodes₀ ++ l) (sym (kept_more ∙ ap (λ l. all_at d (keep (fresh found₀ seen₀) (upto 0 i)) ++ all_at d l) (cond-false (fresh found₀ seen₀ i) (i ∷ []) [] stale) ∙ append-nil _))

      marks : (k : ℕ) → k < 1024 → get_or seen k false ≡ (get_or seen₀ k false || below (λ n. get_or found₀ n false) (i + 1) k)
      marks k h = ⊎_elim here there (cases_eq k i)
        where
          at_i : get_or seen i false ≡ (get_or seen₀ i false || below (λ n. get_or found₀ n false) (i + 1) i)
          at_i =
              seen_here ∙ absorb (get_or seen₀ i false) (get_or found₀ i false) stale
              ∙ ap (λ x. get_or seen₀ i false || x) (sym (below_next (λ n. get_or found₀ n false) i))

          here : k ≡ i → get_or seen k false ≡ (get_or seen₀ k false || below (λ n. get_or found₀ n false) (i + 1) k)
          here s = subst (λ n. get_or seen n false ≡ (get_or seen₀ n false || below (λ n. get_or found₀ n false) (i + 1) n)) (sym s) at_i

          there : (k ≡ i → ⊥) → get_or seen k false ≡ (get_or seen₀ k false || below (λ n. get_or found₀ n false) (i + 1) k)
          there ne = r.seen_are k h ∙ ap (λ x. get_or seen₀ k false || x) (below_other (λ n. get_or found₀ n false) i k ne)

  pub gathered_yes : (nodes' : List Reached) (seen' : List Bool) → length seen ≡ 1024 → get_or found i false ≡ true → get_or seen i false ≡ false
      → nodes' ≡ nodes ++ at_distance d i ∷ [] → seen' ≡ set seen i true → Gathered d nodes₀ nodes' seen₀ seen' found₀ found (i + 1)
  gathered_yes nodes' seen' long hit unset pushed marked = record { nodes_are = same; seen_are = marks; found_are = r.found_are }
    where
      new : fresh found₀ seen₀ i ≡ true
      new = sym fresh_here ∙ and_from (get_or found i false) (not (get_or seen i false)) hit (not_from_false (get_or seen i false) unset)

      same : nodes' ≡ nodes₀ ++ all_at d (keep (fresh found₀ seen₀) (upto 0 (i + 1)))
      same =
          pushed ∙ ap (λ l. l ++ at_distance d i ∷ []) r.nodes_are ∙ append_assoc nodes₀ (all_at d (keep (fresh found₀ seen₀) (upto 0 i))) (at_distance d i ∷ [])
          ∙ ap (λ l. nodes₀ ++ l) (sym (kept_more ∙ ap (λ l. all_at d (keep (fresh found₀ seen₀) (upto 0 i)) ++ all_at d l) (cond-true (fresh found₀ seen₀ i) (i ∷ []) [] new)))

      marks : (k : ℕ) → k < 1024 → get_or seen' k false ≡ (get_or seen₀ k false || below (λ n. get_or found₀ n false) (i + 1) k)
      marks k h = ap (λ l. get_or l k false) marked ∙ ⊎_elim here there (cases_eq k i)
        where
          inside : i < length seen
          inside = omega arith

          at_i : get_or (set seen i true) i false ≡ (get_or seen₀ i false || below (λ n. get_or found₀ n false) (i + 1) i)
          at_i =
              get_or-set_same seen i true false inside
              ∙ sym (or_right (get_or seen₀ i false) _ (below_next (λ n. get_or found₀ n false) i ∙ sym (ap (λ l. get_or l i false) r.found_are) ∙ hit))

          here : k ≡ i → get_or (set seen i true) k false ≡ (get_or seen₀ k false || below (λ n. get_or found₀ n false) (i + 1) k)
          here s = subst (λ n. get_or (set seen i true) n false ≡ (get_or seen₀ n false || below (λ n. get_or found₀ n false) (i + 1) n)) (sym s) at_i

          there : (k ≡ i → ⊥) → get_or (set seen i true) k false ≡ (get_or seen₀ k false || below (λ n. get_or found₀ n false) (i + 1) k)
          there ne = get_or-set_other seen i k true false ne ∙ r.seen_are k h ∙ ap (λ x. get_or seen₀ k false || x) (below_other (λ n. get_or found₀ n false) i k ne)
