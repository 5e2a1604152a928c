-- The levels are what paths of links lead to. Assumes nothing.
use Rattle.std.proofs.Common.{◌≡◌, ℕ, zero, suc, ◌+◌, ◌<◌, ◌≤◌, Bool, true, false, List, [], ◌∷◌, ◌++◌, map, sym, refl, ◌∙◌, subst, ap₂, inl, inr, arith}
use mathlib.Core.List.Memᴰ
use mathlib.Core.List.{Memᴰ}
use Rattle.std.proofs.lemmas.List.{map-append}
use Rattle.std.proofs.lemmas.Bool.{cases_Bool, false≢true}
use Rattle.model.specs.Order.{Sorted}
use Rattle.model.specs.Tree.{Tree, count, Limits, Path, Distance, near, at_distance, level, depth, Extent, children, descendants}
use Rattle.model.proofs.Members.{sorted_map, map_map}
use Rattle.model.proofs.Distances.{levels_with, Nearer, of_levels, mem_levels, sorted_levels, near_of_path, distance_of, ends_at_node, distance_below_count}
use Rattle.tree.specs.declared.reach.Reached.{Reached}
use Rattle.tree.specs.Reached.{levels_at}
use Rattle.tree.specs.Reaches as spec
use Rattle.tree.specs.Reaches.{Reaches, FarEnough, Unlike}

abbrev of_pair : ℕ × ℕ → Reached
of_pair s = record { node = s.0; distance = s.1 }

module _ (tree : Tree) (a : ℕ) where
  same_levels : (d n : ℕ) → levels_at tree a d n ≡ map of_pair (levels_with tree a d n)
  same_levels d zero = refl
  same_levels d (suc n) =
      ap₂ (λ (x y : List Reached). x ++ y) (sym (map_map of_pair (λ (m : ℕ). (m, d)) (level tree a d))) (same_levels (d + 1) n)
      ∙ sym (map-append of_pair (map (λ (m : ℕ). (m, d)) (level tree a d)) (levels_with tree a (d + 1) n))

  module _ (limits : Limits tree) where
    -- some distance, where a path leads
    nearest : (d n : ℕ) → near tree a d n ≡ true → (k : ℕ) × (k ≤ d) × (at_distance tree a k n ≡ true)
    nearest zero n h = (0, omega arith, h)
    nearest (suc d) n h = go (near tree a d n) refl (nearest d n)
      where
        go : (b : Bool) → near tree a d n ≡ b → (near tree a d n ≡ true → (k : ℕ) × (k ≤ d) × (at_distance tree a k n ≡ true)) → (k : ℕ) × (k ≤ suc d) × (at_distance tree a k n ≡ true)
        go true e rest = let r = rest e in (r.0, omega (arith, r.1), r.2)
        go false e rest = (suc d, omega arith, Rattle.std.proofs.lemmas.Bool.and_from _ _ h (Rattle.std.proofs.lemmas.Bool.not_from_false _ e))

    far_enough : (x : Extent) (d : ℕ) → d < 0 + depth tree x → FarEnough x d
    far_enough children d h = omega arith
    far_enough descendants d h = tt

    below_depth : (x : Extent) (d e n : ℕ) → n < count tree → at_distance tree a e n ≡ true → e ≤ d → FarEnough x d → e < 0 + depth tree x
    below_depth children d e n low t h f = omega arith
    below_depth descendants d e n low t h f = omega (arith, distance_below_count tree a e n low t)

    all_levels : (x : Extent) (rs : List Reached) → rs ≡ levels_at tree a 0 (depth tree x) → rs ≡ map of_pair (levels_with tree a 0 (depth tree x))
    all_levels x rs e = e ∙ same_levels 0 (depth tree x)

    module _ (x : Extent) where
      abbrev pairs : List (ℕ × ℕ)
      pairs = levels_with tree a 0 (depth tree x)

      only : (r : Reached) → Memᴰ r (map of_pair pairs) → Distance tree a r.node r.distance × FarEnough x r.distance
      only r m =
          let s = Memᴰ.of_map of_pair pairs m in
          let l = of_levels tree a 0 (depth tree x) s.0 s.1 in
          let P : Reached → Type 0 = λ u. Distance tree a u.node u.distance × FarEnough x u.distance in
          subst P s.2 (distance_of tree a limits s.0.1 s.0.0 l.3, far_enough x s.0.1 l.1)

      whole : a < count tree → (n d : ℕ) → Path tree a n d → FarEnough x d → (e : ℕ) × Memᴰ {A = Reached} (record { node = n; distance = e }) (map of_pair pairs)
      whole low n d p f =
          let k = nearest d n (near_of_path tree a limits d n p) in
          let below = ends_at_node tree a limits n d low p in
          (k.0, Memᴰ.map of_pair (mem_levels tree a 0 (depth tree x) n k.0 (omega arith) (below_depth x d k.0 n below k.2 k.1 f) below k.2))

      ordered : Sorted spec.Nearer (map of_pair pairs)
      ordered = sorted_map of_pair (Nearer tree) spec.Nearer (λ s t h. h) pairs (sorted_levels tree a 0 (depth tree x))

      unlike : (rs : List Reached) → ((r : Reached) → Memᴰ r rs → Distance tree a r.node r.distance) → Sorted spec.Nearer rs → Sorted Unlike rs
      unlike [] h s = tt
      unlike (r ∷ rs) h s = (
        λ y m e. apart (h r (Memᴰ.head refl)) (h y (Memᴰ.tail m)) e (s.0 y m),
        unlike rs (λ q m. h q (Memᴰ.tail m)) s.1,
      )
        where
          apart : {y : Reached} → Distance tree a r.node r.distance → Distance tree a y.node y.distance → r.node ≡ y.node → spec.Nearer r y → ⊥
          apart {y} p q e (inl l) =
              let p' : Path tree a y.node r.distance = subst (λ n. Path tree a n r.distance) e p.0 in
              let q' : Path tree a r.node y.distance = subst (λ n. Path tree a n y.distance) (sym e) q.0 in
              omega (arith, p.1 y.distance q', q.1 r.distance p')
          apart p q e (inr l) = omega (arith, l.1)

      pub reaches : a < count tree → (rs : List Reached) → rs ≡ levels_at tree a 0 (depth tree x) → Reaches tree x a rs
      reaches low rs e = subst (Reaches tree x a) (sym (all_levels x rs e)) (record {
        only = only;
        whole = whole low;
        once = unlike (map of_pair pairs) (λ r m. (only r m).0) ordered;
        ordered = ordered;
      })
