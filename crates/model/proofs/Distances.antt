-- The nodes of a tree by their least distance from a node. Assumes nothing.
use Rattle.std.proofs.Common.{◌≡◌, ℕ, zero, suc, ◌+◌, ◌-◌, ◌<◌, ◌≤◌, Bool, true, false, not, ◌&&◌, ◌⊎◌, List, [], ◌∷◌, ◌++◌, map, length, sym, refl, ap, ◌∙◌, subst, ap₂, inl, inr, ⊎_elim, add-one, arith, length-append}
use mathlib.Core.List.Memᴰ
use mathlib.Core.List.{Memᴰ}
use Rattle.std.proofs.lemmas.List.{map-append}
use Rattle.std.proofs.lemmas.Bool.{or_cases, or_left, or_right, both_ways, not-true, and_parts, and_from, eqb-true, eq-eqb, cases_Bool, not_from_false, cases_lt}
use Rattle.model.specs.Order.{Sorted}
use Rattle.model.specs.Lists.{any, keep}
use Rattle.model.specs.Tree.{Tree, count, Limits, Path, Distance, NodeBefore, nodes, near, at_distance, level, levels, reached, children, descendants}
use Rattle.model.proofs.Members.{one_of, sorted_append, sorted_map, mem_keep, of_keep, sorted_keep, keep_none, keep_length, keep_split, same_or_above, mem_upto, of_upto, sorted_upto, length_upto, any_some, some_any}

mem_nodes : (tree : Tree) (n : ℕ) → n < count tree → Memᴰ n (nodes tree)
mem_nodes tree n l = mem_upto n 0 (count tree) (omega arith) (omega arith)

of_nodes : (tree : Tree) (n : ℕ) → Memᴰ n (nodes tree) → n < count tree
of_nodes tree n m = omega (arith, of_upto n 0 (count tree) m)

-- WITHIN k LINKS

module _ (tree : Tree) (a : ℕ) where
  -- one step further: m lies within k links, and a link leads from it to n
  abbrev last_link : ℕ → ℕ → ℕ → Bool
  last_link k n m = tree.linked m n && near tree a k m

  abbrev next : ℕ → ℕ → Bool
  next k n = any (last_link k n) (nodes tree)

  -- how many lie within k links
  abbrev within : ℕ → ℕ
  within k = length (keep (near tree a k) (nodes tree))

  -- where near holds a path leads, no longer
  longer : (k n : ℕ) → ((m : ℕ) → near tree a k m ≡ true → (j : ℕ) × (j ≤ k) × Path tree a m j) → (near tree a k n ≡ true) ⊎ (next k n ≡ true)
      → (j : ℕ) × (j ≤ suc k) × Path tree a n j
  longer k n f (inl h) = let r = f n h in (r.0, omega arith, r.2)
  longer k n f (inr h) =
      let s = any_some (last_link k n) (nodes tree) h in
      let b = and_parts (tree.linked s.0 n) (near tree a k s.0) s.2 in
      let r = f s.0 b.1 in
      (suc r.0, omega arith, Path.more r.2 b.0)

  pub path_of_near : (k n : ℕ) → near tree a k n ≡ true → (j : ℕ) × (j ≤ k) × Path tree a n j
  path_of_near zero n e = (0, omega arith, subst (λ m. Path tree a m 0) (sym (eqb-true n a e)) Path.stay)
  path_of_near (suc k) n e = longer k n (path_of_near k) (or_cases (near tree a k n) (next k n) e)

  near_more : (k i n : ℕ) → near tree a k n ≡ true → near tree a (i + k) n ≡ true
  near_more k zero n e = subst (λ j. near tree a j n ≡ true) {x = k} {y = 0 + k} (omega arith) e
  near_more k (suc i) n e =
      subst (λ j. near tree a j n ≡ true) {x = suc (i + k)} {y = suc i + k} (omega arith)
      (or_left (near tree a (i + k) n) (next (i + k) n) (near_more k i n e))

  near_le : (k l n : ℕ) → k ≤ l → near tree a k n ≡ true → near tree a l n ≡ true
  near_le k l n h e = subst (λ j. near tree a j n ≡ true) {x = (l - k) + k} {y = l} (omega arith) (near_more k (l - k) n e)

  -- one link back from a node at distance k + 1 lies one at distance k
  one_back : (k n m : ℕ) → m < count tree → near tree a k n ≡ false → near tree a k m ≡ true → tree.linked m n ≡ true → at_distance tree a k m ≡ true
  one_back zero n m l f h c = h
  one_back (suc k) n m l f h c = and_from (near tree a (suc k) m) (not (near tree a k m)) h (not_from_false (near tree a k m) (⊎_elim
      (λ t. absurd (both_ways (near tree a (suc k) n) f
      (or_right (near tree a k n) (next k n) (some_any (last_link k n) m (nodes tree) (mem_nodes tree m l)
      (and_from (tree.linked m n) (near tree a k m) c t)))))
      (λ t. t)
      (cases_Bool (near tree a k m))))

  from_link : (k n : ℕ) → near tree a k n ≡ false → (near tree a k n ≡ true) ⊎ (next k n ≡ true)
      → (m : ℕ) × (m < count tree) × (at_distance tree a k m ≡ true)
  from_link k n f (inl h) = absurd (both_ways (near tree a k n) f h)
  from_link k n f (inr h) =
      let s = any_some (last_link k n) (nodes tree) h in
      let b = and_parts (tree.linked s.0 n) (near tree a k s.0) s.2 in
      let l = of_nodes tree s.0 s.1 in
      (s.0, l, one_back k n s.0 l f b.1 b.0)

  -- before a level that has a node, each has one
  pub level_before : (k n : ℕ) → at_distance tree a (suc k) n ≡ true → (m : ℕ) × (m < count tree) × (at_distance tree a k m ≡ true)
  level_before k n e =
      let b = and_parts (near tree a (suc k) n) (not (near tree a k n)) e in
      from_link k n (not-true (near tree a k n) b.1) (or_cases (near tree a k n) (next k n) b.0)

  -- how many lie within k + 1: those within k, and the next level
  one_level_more : (k : ℕ) → within (suc k) ≡ within k + length (level tree a (suc k))
  one_level_more k = keep_split (near tree a k) (next k) (nodes tree)

  -- with a node at distance k, more than k lie within k
  many_near : (k n : ℕ) → n < count tree → at_distance tree a k n ≡ true → suc k ≤ within k
  many_near zero n l e = one_of n (keep (near tree a 0) (nodes tree)) (mem_keep (near tree a 0) n (nodes tree) (mem_nodes tree n l) e)
  many_near (suc k) n l e =
      let b = level_before k n e in
      let h = many_near k b.0 b.1 b.2 in
      let o = one_of n (level tree a (suc k)) (mem_keep (at_distance tree a (suc k)) n (nodes tree) (mem_nodes tree n l) e) in
      omega (arith, one_level_more k)

  pub distance_below_count : (k n : ℕ) → n < count tree → at_distance tree a k n ≡ true → k < count tree
  distance_below_count k n l e = omega (arith, many_near k n l e, keep_length (near tree a k) (nodes tree), length_upto 0 (count tree))

  -- HOW MANY ARE REACHED

  levels_length : (d n : ℕ) → within d + length (levels tree a (suc d) n) ≡ within (d + n)
  levels_length d zero = rw (native.Mathlib.Nat.add-zero d) (omega arith)
  levels_length d (suc n) =
      let h = levels_length (suc d) n in
      let e : length (levels tree a (suc d + 1) n) ≡ length (levels tree a (suc (suc d)) n) =
      ap (λ i. length (levels tree a i n)) (add-one (suc d)) in
      let q : within (suc d + n) ≡ within (d + suc n) = ap (λ i. within i) {x = suc d + n} {y = d + suc n} (omega arith) in
      omega (arith, h, e, q, one_level_more d, length-append (level tree a (suc d)) (levels tree a (suc d + 1) n))

  levels_from_start : (n : ℕ) → length (levels tree a 0 (suc n)) ≡ within n
  levels_from_start n =
      length-append (level tree a 0) (levels tree a 1 n) ∙ (levels_length 0 n ∙ ap (λ i. within i) {x = 0 + n} {y = n} (omega arith))

  pub children_length : length (reached tree children a) ≡ within 1
  children_length = levels_from_start 1

  -- a distance is below the number of nodes, so no node is as far as that
  last_level : level tree a (count tree) ≡ []
  last_level =
      keep_none (at_distance tree a (count tree)) (nodes tree)
      (λ n m e. let h = distance_below_count (count tree) n (of_nodes tree n m) e in omega arith)

  pub descendants_length : length (reached tree descendants a) ≡ within (count tree)
  descendants_length = go (count tree) refl
    where
      go : (c : ℕ) → count tree ≡ c → length (levels tree a 0 c) ≡ within c
      go zero e = rw e
      go (suc c) e =
          let z : length (level tree a (suc c)) ≡ 0 = ap length (subst (λ i. level tree a i ≡ []) e last_level) in
          let w : within c ≡ within (suc c) = omega (arith, one_level_more c) in
          levels_from_start c ∙ w

  -- THE RELATION AND THE TEST

  module _ (limits : Limits tree) where
    pub near_of_path : (k n : ℕ) → Path tree a n k → near tree a k n ≡ true
    near_of_path k n Path.stay = eq-eqb a a refl
    near_of_path k n (Path.more {m} {d} p e) =
        or_right (near tree a d n) (next d n) (some_any (last_link d n) m (nodes tree) (mem_nodes tree m (limits.between_nodes m n e).0)
        (and_from (tree.linked m n) (near tree a d m) e (near_of_path d m p)))

    pub distance_of : (d n : ℕ) → at_distance tree a d n ≡ true → Distance tree a n d
    distance_of zero n e = (subst (λ m. Path tree a m 0) (sym (eqb-true n a e)) Path.stay, λ k p. omega arith)
    distance_of (suc d) n e =
        let b = and_parts (near tree a (suc d) n) (not (near tree a d n)) e in
        let r = path_of_near (suc d) n b.0 in
        let far = not-true (near tree a d n) b.1 in
        let least : (k : ℕ) → Path tree a n k → suc d ≤ k = λ k p.
        ⊎_elim (λ l. l) (λ l. absurd (both_ways (near tree a d n) far (near_le k d n l (near_of_path k n p)))) (cases_lt d k) in
        (subst (λ k. Path tree a n k) {x = r.0} {y = suc d} (omega (arith, least r.0 r.2)) r.2, least)

    pub of_distance : (d n : ℕ) → Distance tree a n d → at_distance tree a d n ≡ true
    of_distance zero n p = near_of_path 0 n p.0
    of_distance (suc d) n p =
        and_from (near tree a (suc d) n) (not (near tree a d n)) (near_of_path (suc d) n p.0)
        (not_from_false (near tree a d n) (⊎_elim (λ t. let r = path_of_near d n t in absurd (omega (arith, p.1 r.0 r.2))) (λ t. t)
        (cases_Bool (near tree a d n))))

    pub ends_at_node : (n d : ℕ) → a < count tree → Path tree a n d → n < count tree
    ends_at_node n d l Path.stay = l
    ends_at_node n d l (Path.more {m} p e) = omega (arith, limits.between_nodes m n e)

-- THE NODES OF THE LEVELS, EACH WITH ITS DISTANCE

abbrev pub levels_with : Tree → ℕ → ℕ → ℕ → List (ℕ × ℕ)
levels_with tree a d zero = []
levels_with tree a d (suc n) = map (λ m. (m, d)) (level tree a d) ++ levels_with tree a (d + 1) n

-- by distance, then by the order of nodes
abbrev pub Nearer : Tree → ℕ × ℕ → ℕ × ℕ → Type 0
Nearer tree s t = (s.1 < t.1) ⊎ ((s.1 ≡ t.1) × NodeBefore tree s.0 t.0)

-- a node of the levels from d on, n of them
abbrev pub Lies : Tree → ℕ → ℕ → ℕ → ℕ × ℕ → Type 0
Lies tree a d n s = (d ≤ s.1) × (s.1 < d + n) × (s.0 < count tree) × (at_distance tree a s.1 s.0 ≡ true)

map_first : (d : ℕ) (xs : List ℕ) → map (λ (s : ℕ × ℕ). s.0) (map (λ m. (m, d)) xs) ≡ xs
map_first d [] = refl
map_first d (x ∷ xs) = ap (λ (t : List ℕ). x ∷ t) (map_first d xs)

module _ (tree : Tree) (a : ℕ) where
  pub nodes_of_levels : (d n : ℕ) → map (λ (s : ℕ × ℕ). s.0) (levels_with tree a d n) ≡ levels tree a d n
  nodes_of_levels d zero = refl
  nodes_of_levels d (suc n) =
      map-append (λ (s : ℕ × ℕ). s.0) (map (λ m. (m, d)) (level tree a d)) (levels_with tree a (d + 1) n)
      ∙ ap₂ (λ (x y : List ℕ). x ++ y) (map_first d (level tree a d)) (nodes_of_levels (d + 1) n)

  lies_here : (d n : ℕ) (s : ℕ × ℕ) → Memᴰ s (map (λ m. (m, d)) (level tree a d)) → Lies tree a d (suc n) s
  lies_here d n s m =
      let r = Memᴰ.of_map (λ (m : ℕ). (m, d)) (level tree a d) m in
      let k = of_keep (at_distance tree a d) r.0 (nodes tree) r.1 in
      subst (Lies tree a d (suc n)) r.2 (omega arith, omega arith, of_nodes tree r.0 k.0, k.1)

  pub of_levels : (d n : ℕ) (s : ℕ × ℕ) → Memᴰ s (levels_with tree a d n) → Lies tree a d n s
  of_levels d zero s m = absurd (Memᴰ.not-nil m)
  of_levels d (suc n) s m =
      ⊎_elim {C = Lies tree a d (suc n) s} (lies_here d n s) (λ t. let r = of_levels (d + 1) n s t in (omega arith, omega arith, r.2, r.3))
      (Memᴰ.append_cases (map (λ (m : ℕ). (m, d)) (level tree a d)) m)

  pub mem_levels : (d n x e : ℕ) → d ≤ e → e < d + n → x < count tree → at_distance tree a e x ≡ true
      → Memᴰ {A = ℕ × ℕ} (x, e) (levels_with tree a d n)
  mem_levels d zero x e h l b t = absurd (omega arith)
  mem_levels d (suc n) x e h l b t = ⊎_elim
      (λ q. Memᴰ.append_left (levels_with tree a (d + 1) n)
      (subst (λ i. Memᴰ {A = ℕ × ℕ} (x, i) (map (λ m. (m, d)) (level tree a d))) (sym q)
      (Memᴰ.map (λ (m : ℕ). (m, d)) (mem_keep (at_distance tree a d) x (nodes tree) (mem_nodes tree x b)
      (subst (λ i. at_distance tree a i x ≡ true) q t)))))
      (λ k. Memᴰ.append_right (map (λ m. (m, d)) (level tree a d)) (mem_levels (d + 1) n x e k (omega arith) b t))
      (same_or_above e d h)

  -- `nodes` has the nodes in their order
  sorted_nodes : Sorted (NodeBefore tree) (nodes tree)
  sorted_nodes = sorted_upto 0 (count tree)

  sorted_level : (d : ℕ) → Sorted (Nearer tree) (map (λ m. (m, d)) (level tree a d))
  sorted_level d =
      sorted_map (λ (m : ℕ). (m, d)) (NodeBefore tree) (Nearer tree) (λ x y l. inr (refl, l)) (level tree a d)
      (sorted_keep (at_distance tree a d) (NodeBefore tree) (nodes tree) sorted_nodes)

  pub sorted_levels : (d n : ℕ) → Sorted (Nearer tree) (levels_with tree a d n)
  sorted_levels d zero = tt
  sorted_levels d (suc n) =
      sorted_append (Nearer tree) (map (λ m. (m, d)) (level tree a d)) (levels_with tree a (d + 1) n) (sorted_level d) (sorted_levels (d + 1) n)
      (λ s t m k. let u = lies_here d 0 s m in let v = of_levels (d + 1) n t k in inl (omega arith))
