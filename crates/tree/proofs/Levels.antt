-- The levels of a tree, one after the other. Assumes nothing.
use Rattle.std.proofs.Common.{◌≡◌, ℕ, zero, suc, ◌+◌, ◌-◌, ◌<◌, ◌≤◌, Bool, true, false, not, ◌&&◌, ◌||◌, List, [], ◌∷◌, ◌++◌, sym, refl, ap, ◌∙◌, subst, add-zero, arith}
use mathlib.Core.List.Memᴰ
use mathlib.Core.List.{Memᴰ}
use Rattle.std.proofs.lemmas.List.{append-nil, append_assoc, map-append}
use Rattle.std.proofs.Math.Bool.{or_assoc, or_self_left, and_comm}
use Rattle.model.specs.Lists.{upto, any, keep}
use Rattle.model.specs.Tree.{Tree, count, nodes, near, at_distance, level, levels, children, descendants, Extent, depth}
use Rattle.model.proofs.Members.{mem_keep, keep_none, of_upto, mem_upto}
use Rattle.model.proofs.Distances.{level_before}
use Rattle.tree.specs.Reached.{all_at, nodes_reached, node_of, levels_at, fresh, farthest_of}
use Rattle.tree.proofs.Bools.{any_or, any_keep, any_same, keep_same}

-- where a link l leads on from a node that lies near (x), or one link farther (z)
both_levels : (l x z : Bool) → ((l && x) || (((x || z) && not x) && l)) ≡ (l && (x || z))
both_levels true true z = refl
both_levels true false true = refl
both_levels true false false = refl
both_levels false true z = refl
both_levels false false true = refl
both_levels false false false = refl

farther_too : (l x z : Bool) → ((l && x) || (l && (x || z))) ≡ (l && (x || z))
farther_too true true z = refl
farther_too true false z = refl
farther_too false x z = refl

module _ (tree : Tree) (a : ℕ) where
  abbrev last_link : ℕ → ℕ → ℕ → Bool
  last_link j k m = tree.linked m k && near tree a j m

  -- what lies near, and the children of the level there, is what lies near with one link more
  pub found_next : (j k : ℕ) → (near tree a j k || any (λ m. tree.linked m k) (level tree a j)) ≡ near tree a (suc j) k
  found_next zero k =
      ap (λ x. near tree a 0 k || x) (any_keep (at_distance tree a 0) (λ m. tree.linked m k) (nodes tree)
      ∙ any_same (λ m. at_distance tree a 0 m && tree.linked m k) (last_link 0 k) (λ m. and_comm (near tree a 0 m) (tree.linked m k)) (nodes tree))
  found_next (suc i) k =
      let step : ℕ → Bool = λ m. any (last_link i m) (nodes tree) in
      let here : ℕ → Bool = λ m. at_distance tree a (suc i) m && tree.linked m k in
      let x = near tree a i k in
      let y = any (last_link i k) (nodes tree) in
      ap (λ b. (x || y) || b) (any_keep (at_distance tree a (suc i)) (λ m. tree.linked m k) (nodes tree))
      ∙ or_assoc x y (any here (nodes tree))
      ∙ ap (λ b. x || b) (any_or (last_link i k) here (nodes tree) ∙ any_same (λ m. last_link i k m || here m) (last_link (suc i) k) (λ m. both_levels (tree.linked m k) (near tree a i m) (step m)) (nodes tree))
      ∙ sym (or_assoc x y (any (last_link (suc i) k) (nodes tree))
      ∙ ap (λ b. x || b) (any_or (last_link i k) (last_link (suc i) k) (nodes tree) ∙ any_same (λ m. last_link i k m || last_link (suc i) k m) (last_link (suc i) k) (λ m. farther_too (tree.linked m k) (near tree a i m) (step m)) (nodes tree)))

  pub seen_next : (j k : ℕ) → (near tree a j k || near tree a (suc j) k) ≡ near tree a (suc j) k
  seen_next j k = or_self_left (near tree a j k) (any (last_link j k) (nodes tree))

  -- what is found and not seen, where that is known of each node
  pub level_is : (p : ℕ → Bool) (seen found : List Bool) → ((k : ℕ) → k < count tree → fresh found seen k ≡ p k) → keep (fresh found seen) (upto 0 (count tree)) ≡ keep p (nodes tree)
  level_is p seen found h = keep_same (fresh found seen) p (nodes tree) (λ k m. h k (omega (arith, of_upto k 0 (count tree) m)))

  pub level_stays : (d : ℕ) → level tree a d ≡ [] → level tree a (suc d) ≡ []
  level_stays d e = keep_none (at_distance tree a (suc d)) (nodes tree)
      (λ n m t. let b = level_before tree a d n t in
      Memᴰ.not-nil (subst (λ l. Memᴰ b.0 l) e (mem_keep (at_distance tree a d) b.0 (nodes tree) (mem_upto b.0 0 (count tree) (omega arith) (omega (arith, b.1))) b.2)))

  pub levels_push : (d n : ℕ) → levels_at tree a d (suc n) ≡ levels_at tree a d n ++ all_at (d + n) (level tree a (d + n))
  levels_push d zero =
      let e : d ≡ d + 0 = omega arith in
      append-nil (all_at d (level tree a d)) ∙ ap (λ i. all_at i (level tree a i)) e
  levels_push d (suc n) =
      let e : d + 1 + n ≡ d + suc n = omega arith in
      ap (λ l. all_at d (level tree a d) ++ l) (levels_push (d + 1) n ∙ ap (λ i. levels_at tree a (d + 1) n ++ all_at i (level tree a i)) e)
      ∙ sym (append_assoc (all_at d (level tree a d)) (levels_at tree a (d + 1) n) (all_at (d + suc n) (level tree a (d + suc n))))

  -- past an empty level all are empty
  pub levels_stay : (d n : ℕ) → level tree a d ≡ [] → (levels_at tree a 0 (d + n) ≡ levels_at tree a 0 d) × (level tree a (d + n) ≡ [])
  levels_stay d zero e = (ap (levels_at tree a 0) (add-zero d), ap (level tree a) (add-zero d) ∙ e)
  levels_stay d (suc n) e =
      let before = levels_stay d n e in
      let s : d + suc n ≡ suc (d + n) = omega arith in
      let z : 0 + (d + n) ≡ d + n = omega arith in
      (ap (levels_at tree a 0) s ∙ levels_push 0 (d + n) ∙ ap (λ i. levels_at tree a 0 (d + n) ++ all_at i (level tree a i)) z ∙ ap (λ l. levels_at tree a 0 (d + n) ++ all_at (d + n) l) before.1 ∙ append-nil _ ∙ before.0, ap (level tree a) s ∙ level_stays (d + n) before.1)

  pub levels_all : (d e : ℕ) → d ≤ e → level tree a d ≡ [] → levels_at tree a 0 d ≡ levels_at tree a 0 e
  levels_all d e h empty =
      let split : d + (e - d) ≡ e = omega arith in
      sym (levels_stay d (e - d) empty).0 ∙ ap (levels_at tree a 0) split

  nodes_again : (d : ℕ) (ns : List ℕ) → nodes_reached (all_at d ns) ≡ ns
  nodes_again d [] = refl
  nodes_again d (n ∷ ns) = ap (λ (l : List ℕ). n ∷ l) (nodes_again d ns)

  pub nodes_all_at : (d : ℕ) (ns : List ℕ) → nodes_reached (all_at d ns) ≡ ns
  nodes_all_at = nodes_again

  pub nodes_levels : (d n : ℕ) → nodes_reached (levels_at tree a d n) ≡ levels tree a d n
  nodes_levels d zero = refl
  nodes_levels d (suc n) =
      map-append node_of (all_at d (level tree a d)) (levels_at tree a (d + 1) n)
      ∙ ap (λ l. l ++ nodes_reached (levels_at tree a (d + 1) n)) (nodes_again d (level tree a d))
      ∙ ap (λ l. level tree a d ++ l) (nodes_levels (d + 1) n)

  -- the farthest distance, and the number of distances
  pub levels_whole : (x : Extent) → levels_at tree a 0 (suc (farthest_of x (count tree))) ≡ levels_at tree a 0 (depth tree x)
  levels_whole children = refl
  levels_whole descendants = go (count tree) refl
    where
      go : (c : ℕ) → count tree ≡ c → levels_at tree a 0 (suc (c - 1)) ≡ levels_at tree a 0 c
      go zero e = append-nil (all_at 0 (level tree a 0)) ∙ ap (λ n. all_at 0 (keep (at_distance tree a 0) (upto 0 n))) e
      go (suc c) e = let s : suc (suc c - 1) ≡ suc c = omega arith in ap (levels_at tree a 0) s

  pub depth_above : (x : Extent) (d : ℕ) → d < farthest_of x (count tree) → suc d ≤ depth tree x
  depth_above children d h = omega arith
  depth_above descendants d h = omega arith
