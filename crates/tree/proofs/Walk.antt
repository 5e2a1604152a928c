-- The steps of the loops that spread a level, and go from level to level. Assumes nothing.
use Rattle.std.proofs.Common.{◌≡◌, ℕ, suc, ◌+◌, ◌<◌, ◌≤◌, Bool, true, false, not, ◌&&◌, ◌||◌, eqb, List, [], ◌++◌, length, get_or, drop, set, replicate, sym, refl, ap, ◌∙◌, subst, ap₂, ⊎_elim, add-one, arith}
use Rattle.std.proofs.lemmas.List.{append-nil, length-append, length-replicate, get_or-replicate, get_or-set_same, get_or-set_other, drop_at, at_drop_more, at_drop_all, nil_from_length, length-map}
use Rattle.std.proofs.lemmas.Bool.{eq-eqb, ne_eqb, cases_eq}
use Rattle.std.proofs.Math.Bool.{or-false, or_assoc}
use Rattle.model.specs.Lists.{upto, any, keep}
use Rattle.model.specs.Tree.{Tree, count, nodes, near, at_distance, level, Extent, depth}
use Rattle.tree.specs.declared.reach.Reached.{Reached}
use Rattle.tree.specs.Reached.{all_at, nodes_reached, levels_at, fresh, farthest_of}
use Rattle.tree.proofs.Levels.{seen_next, found_next, level_is, levels_push, levels_all, nodes_all_at}

-- what is found, with what is still to be found from the i-th node of a level on, stays the same
abbrev pub Spreading : (ℕ → ℕ → Bool) → List Reached → List Bool → List Bool → ℕ → Type 0
Spreading link ns before found i =
    (k : ℕ) → k < 1024 → (get_or found k false || any (λ m. link m k) (nodes_reached (drop i ns))) ≡ (get_or before k false || any (λ m. link m k) (nodes_reached ns))

module _ (link : ℕ → ℕ → Bool) (ns : List Reached) (before found : List Bool) (i : ℕ) (r : Spreading link ns before found i) where
  pub spreading_more : (found' : List Bool) (d : Reached) → i < length ns → ((k : ℕ) → k < 1024 → get_or found' k false ≡ (get_or found k false || link (get_or ns i d).node k)) → Spreading link ns before found' (i + 1)
  spreading_more found' d within marked k h =
      ap (λ b. b || any (λ m. link m k) (nodes_reached (drop (i + 1) ns))) (marked k h)
      ∙ or_assoc (get_or found k false) (link (get_or ns i d).node k) (any (λ m. link m k) (nodes_reached (drop (i + 1) ns)))
      ∙ ap (λ b. get_or found k false || b) (sym (at_drop_more (λ l. any (λ m. link m k) (nodes_reached l)) ns i d within))
      ∙ r k h

  pub spreading_all : length ns ≤ i → (k : ℕ) → k < 1024 → get_or found k false ≡ (get_or before k false || any (λ m. link m k) (nodes_reached ns))
  spreading_all past k h =
      sym (or-false (get_or found k false))
      ∙ ap (λ b. get_or found k false || b) (sym (at_drop_all (λ l. any (λ m. link m k) (nodes_reached l)) ns i past))
      ∙ r k h

-- the levels to distance j are reached; the last of them starts at `start`
pub record Levelled (tree : Tree) (a : ℕ) (rs : List Reached) (seen found : List Bool) (start j : ℕ) : Type 0 where
  pub nodes_are : rs ≡ levels_at tree a 0 (suc j)
  pub within : start ≤ length rs
  pub last_is : nodes_reached (drop start rs) ≡ level tree a j
  pub seen_are : (k : ℕ) → k < count tree → get_or seen k false ≡ near tree a j k
  pub found_are : (k : ℕ) → k < count tree → get_or found k false ≡ near tree a j k

module _ (tree : Tree) (a : ℕ) (few : count tree ≤ 1024) where
  -- the asked node alone
  marked : (cleared found : List Bool) → cleared ≡ replicate 1024 false → found ≡ set cleared a true → (k : ℕ) → k < count tree → get_or found k false ≡ eqb k a
  marked cleared found clear on k h = ap (λ l. get_or l k false) (on ∙ ap (λ l. set l a true) clear) ∙ ⊎_elim here there (cases_eq k a)
    where
      here : k ≡ a → get_or (set (replicate 1024 false) a true) k false ≡ eqb k a
      here s =
          let inside : a < length (replicate 1024 false) = omega (arith, length-replicate 1024 false) in
          ap (λ n. get_or (set (replicate 1024 false) a true) n false) s ∙ get_or-set_same (replicate 1024 false) a true false inside ∙ sym (eq-eqb k a s)

      there : (k ≡ a → ⊥) → get_or (set (replicate 1024 false) a true) k false ≡ eqb k a
      there ne = get_or-set_other (replicate 1024 false) a k true false ne ∙ get_or-replicate 1024 k false false (omega arith) ∙ sym (ne_eqb k a ne)

  pub levelled_none : (n : ℕ) (nodes rs : List Reached) (seen seen' cleared found found' : List Bool) → n ≡ count tree
      → nodes ≡ [] → seen ≡ replicate 1024 false → cleared ≡ replicate 1024 false → found ≡ set cleared a true
      → rs ≡ nodes ++ all_at 0 (keep (fresh found seen) (upto 0 n))
      → ((k : ℕ) → k < n → get_or seen' k false ≡ (get_or seen k false || get_or found k false))
      → found' ≡ found
      → Levelled tree a rs seen' found' 0 0
  levelled_none n nodes rs seen seen' cleared found found' whole empty off clear on gathered looked kept =
      let mark : (k : ℕ) → k < count tree → get_or found k false ≡ eqb k a = marked cleared found clear on in
      let dark : (k : ℕ) → k < count tree → get_or seen k false ≡ false = λ k h. ap (λ l. get_or l k false) off ∙ get_or-replicate 1024 k false false (omega arith) in
      let first : keep (fresh found seen) (upto 0 (count tree)) ≡ level tree a 0 =
      level_is tree a (at_distance tree a 0) seen found (λ k h. ap₂ (λ x y. x && not y) (mark k h) (dark k h) ∙ and_true (eqb k a)) in
      let rows : rs ≡ all_at 0 (level tree a 0) =
      gathered ∙ ap (λ l. l ++ all_at 0 (keep (fresh found seen) (upto 0 n))) empty ∙ ap (λ m. all_at 0 (keep (fresh found seen) (upto 0 m))) whole ∙ ap (all_at 0) first in
      record {
        nodes_are = rows ∙ sym (append-nil (all_at 0 (level tree a 0)));
        within = omega arith;
        last_is = ap nodes_reached rows ∙ nodes_all_at tree a 0 (level tree a 0);
        seen_are = λ k h. looked k (omega arith) ∙ ap (λ x. x || get_or found k false) (dark k h) ∙ mark k h;
        found_are = λ k h. ap (λ l. get_or l k false) kept ∙ mark k h;
      }
    where
      and_true : (x : Bool) → (x && true) ≡ x
      and_true true = refl
      and_true false = refl

  module _ {rs : List Reached} {seen found : List Bool} {start j : ℕ} (r : Levelled tree a rs seen found start j)
      (n : ℕ) (ns rs₂ : List Reached) (seen₂ found₁ found₂ : List Bool) (whole : n ≡ count tree) (last : ns ≡ drop start rs)
      (spread : (k : ℕ) → k < 1024 → get_or found₁ k false ≡ (get_or found k false || any (λ m. tree.linked m k) (nodes_reached ns)))
      (gathered : rs₂ ≡ rs ++ all_at (j + 1) (keep (fresh found₁ seen) (upto 0 n)))
    where
      next_found : (k : ℕ) → k < count tree → get_or found₁ k false ≡ near tree a (suc j) k
      next_found k h =
          spread k (omega arith) ∙ ap₂ (λ x l. x || any (λ m. tree.linked m k) l) (r.found_are k h) (ap nodes_reached last ∙ r.last_is) ∙ found_next tree a j k

      next_level : rs₂ ≡ rs ++ all_at (suc j) (level tree a (suc j))
      next_level =
          gathered
          ∙ ap (λ m. rs ++ all_at (j + 1) (keep (fresh found₁ seen) (upto 0 m))) whole
          ∙ ap (λ l. rs ++ all_at (j + 1) l) (level_is tree a (at_distance tree a (suc j)) seen found₁ (λ k h. ap₂ (λ x y. x && not y) (next_found k h) (r.seen_are k h)))
          ∙ ap (λ d. rs ++ all_at d (level tree a (suc j))) (add-one j)

      rows : rs₂ ≡ levels_at tree a 0 (suc (suc j))
      rows =
          let z : 0 + suc j ≡ suc j = omega arith in
          next_level ∙ ap (λ l. l ++ all_at (suc j) (level tree a (suc j))) r.nodes_are
          ∙ sym (levels_push tree a 0 (suc j) ∙ ap (λ i. levels_at tree a 0 (suc j) ++ all_at i (level tree a i)) z)

      pub levelled_more : (end : ℕ) → length rs ≡ end → ((k : ℕ) → k < n → get_or seen₂ k false ≡ (get_or seen k false || get_or found₁ k false)) → found₂ ≡ found₁ → Levelled tree a rs₂ seen₂ found₂ end (j + 1)
      levelled_more end long looked kept = subst (Levelled tree a rs₂ seen₂ found₂ end) (sym (add-one j)) (record {
        nodes_are = rows;
        within = omega (arith, ap length next_level, length-append rs (all_at (suc j) (level tree a (suc j))));
        last_is = ap (λ l. nodes_reached (drop end l)) next_level ∙ ap nodes_reached (drop_at rs (all_at (suc j) (level tree a (suc j))) end long) ∙ nodes_all_at tree a (suc j) (level tree a (suc j));
        seen_are = λ k h. looked k (omega arith) ∙ ap₂ (λ x y. x || y) (r.seen_are k h) (next_found k h) ∙ seen_next tree a j k;
        found_are = λ k h. ap (λ l. get_or l k false) kept ∙ next_found k h;
      })

      -- the next level is empty
      pub levelled_stop : (x : Extent) → length rs₂ ≡ length rs → suc j ≤ depth tree x → rs₂ ≡ levels_at tree a 0 (depth tree x)
      levelled_stop x same h =
          let l = all_at (suc j) (level tree a (suc j)) in
          let none : length (level tree a (suc j)) ≡ 0 = omega (arith, ap length next_level, length-append rs l, length-map (level tree a (suc j)) (Rattle.tree.specs.Reached.at_distance (suc j))) in
          let empty = nil_from_length (level tree a (suc j)) none in
          next_level ∙ ap (λ ns. rs ++ all_at (suc j) ns) empty ∙ append-nil rs ∙ r.nodes_are ∙ levels_all tree a (suc j) (depth tree x) h empty
