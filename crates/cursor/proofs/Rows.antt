-- The rows ahead of a cursor, move by move. Assumes nothing.
use Rattle.std.proofs.Common.{◌≡◌, ℕ, zero, suc, ◌+◌, ◌<◌, ◌≤◌, List, [], ◌∷◌, ◌++◌, map, length, get_or, drop, Some, None, sym, refl, ap, ◌∙◌, subst, add-one, arith, eq-eqb}
use mathlib.Core.List.Memᴰ
use mathlib.Core.List.{Memᴰ}
use Rattle.std.specs.List.{flat_map}
use Rattle.std.proofs.lemmas.List.{append_assoc, drop_more, drop_all, length-append}
use Rattle.model.specs.Content.{Request}
use Rattle.model.specs.Lists.{nth}
use Rattle.model.specs.Tree.{Tree, Extent, children, descendants, count, nodes, at_distance, level, levels, reached}
use Rattle.model.specs.Rows as rows
use Rattle.model.specs.Rows.{Listed, Listing, listings, scope, below, resource, scope_spots, resource_spots, choice_spots, reference_spots, spots_from, Spot, node_spot}
use Rattle.model.proofs.Members.{mem_keep, mem_upto}
use Rattle.single.specs.Numbers.{past}
use Rattle.expansion.specs.Few.{held}
use Rattle.expansion.specs.Listed.{listed_of}
use Rattle.expansion.specs.Choice.{positive, after_choice}
use Rattle.cursor.specs.declared.cursor.Cursor.{Cursor}
use Rattle.cursor.specs.declared.cursor.Stand.TheVariants.{Node}
use Rattle.cursor.specs.Ahead.{chosen, nodes_of, from_reference, after_choices, ahead_at, ahead, Choosing, Stands, Over, Unmoved}

-- REFERENCES

module _ {A : Type 0} where
  pub nth_none : (xs : List A) (k : ℕ) → nth xs k ≡ None → drop k xs ≡ []
  nth_none [] zero e = refl
  nth_none [] (suc k) e = refl
  nth_none (x ∷ xs) zero e = let z : ◌≡◌ {A = ℕ} 0 1 = cc in absurd (omega arith)
  nth_none (x ∷ xs) (suc k) e = nth_none xs k e

  pub nth_some : (xs : List A) (k : ℕ) (x : A) → nth xs k ≡ Some x → (k < length xs) × (drop k xs ≡ x ∷ drop (suc k) xs)
  nth_some [] k x e = let z : ◌≡◌ {A = ℕ} 0 1 = cc in absurd (omega arith)
  nth_some (y ∷ xs) zero x e = let h : y ≡ x = cc in (omega arith, ap (λ z. z ∷ xs) h)
  nth_some (y ∷ xs) (suc k) x e = let r = nth_some xs k x e in (omega (arith, r.0), r.1)

module _ (tree : Tree) (q : Request) where
  pub reference_past : (r : ℕ) → nth (listings q) r ≡ None → from_reference tree q r ≡ []
  reference_past r e = ap (spots_from tree r) (nth_none (listings q) r e)

  pub reference_here : (r : ℕ) (l : Listing) → nth (listings q) r ≡ Some l → from_reference tree q r ≡ reference_spots tree r l ++ from_reference tree q (r + 1)
  reference_here r l e =
      ap (spots_from tree r) (nth_some (listings q) r l e).1
      ∙ ap (λ k. reference_spots tree r l ++ spots_from tree (r + 1) (drop k (listings q))) (sym (add-one r))

  -- NODES

  pub at_node : (c : Cursor) (i : ℕ) → Over tree q c → c.stand ≡ Node i → Stands q c (Node i)
  at_node c i o e = subst (Stands q c) e o.stands

  pub node_here : (c : Cursor) (i : ℕ) → c.stand ≡ Node i → i < length (nodes_of c)
      → ahead tree q c ≡ node_spot tree c.reference (held c.choice) (chosen q c) (get_or (nodes_of c) i 0)
      ∷ (map (node_spot tree c.reference (held c.choice) (chosen q c)) (drop (i + 1) (nodes_of c)) ++ after_choices tree q c)
  node_here c i e h =
      ap (ahead_at tree q c) e
      ∙ ap (λ ns. map (node_spot tree c.reference (held c.choice) (chosen q c)) ns ++ after_choices tree q c) (drop_more (nodes_of c) i 0 h)

  pub last_node : (c : Cursor) (i : ℕ) → length (nodes_of c) ≤ i + 1
      → map (node_spot tree c.reference (held c.choice) (chosen q c)) (drop (i + 1) (nodes_of c)) ++ after_choices tree q c ≡ after_choices tree q c
  last_node c i h =
      ap (λ ns. map (node_spot tree c.reference (held c.choice) (chosen q c)) ns ++ after_choices tree q c) (drop_all (i + 1) (nodes_of c) h)

  -- CHOICES

  -- what is ahead after the present choice hangs on these four alone
  pub after_same : (c d : Cursor) → Unmoved c d → after_choices tree q d ≡ after_choices tree q c
  after_same c d u = λ i.
      flat_map (choice_spots tree (u.reference i) (listed_of q.elements (held (u.listed i)))) (after_choice (held (u.widths i)) (held (u.choice i)))
      ++ from_reference tree q (u.reference i + 1)

  pub choosing_same : (c d : Cursor) → Unmoved c d → Choosing q c → Choosing q d
  choosing_same c d u h = record {
    within = subst (λ r. r < length (listings q)) (sym u.reference) h.within;
    named = subst (λ f. past (held f) ≤ length q.elements) (sym u.listed) h.named;
    some = ap (λ f. positive (held f)) u.widths ∙ h.some;
    long = ap (λ f. length (held f)) u.choice ∙ (h.long ∙ ap (λ f. length (held f)) (sym u.widths));
  }

-- the first of some choices, before the others
pub first_choice : (tree : Tree) (r : ℕ) (ls : List Listed) (ps : List ℕ) (rest all : List (List ℕ)) (later : List Spot) → all ≡ ps ∷ rest
    → choice_spots tree r ls ps ++ (flat_map (choice_spots tree r ls) rest ++ later) ≡ flat_map (choice_spots tree r ls) all ++ later
first_choice tree r ls ps rest all later e =
    sym (append_assoc (choice_spots tree r ls ps) (flat_map (choice_spots tree r ls) rest) later)
    ∙ ap (λ cs. flat_map (choice_spots tree r ls) cs ++ later) (sym e)

-- the rows of a choice that asks for what is reached from a node
pub choice_below : (tree : Tree) (r : ℕ) (ls : List Listed) (ps : List ℕ) (cs : List Listed) (l : Listed) (x : Extent) (a : ℕ) (ns : List ℕ)
    → cs ≡ rows.chosen ls ps → Some l ≡ resource cs → below x a ≡ scope tree l.element → ns ≡ reached tree x a
    → map (node_spot tree r ps cs) ns ≡ choice_spots tree r ls ps
choice_below tree r ls ps cs l x a ns picks has asks reaches =
    ap (map (node_spot tree r ps cs)) reaches
    ∙ ap (scope_spots tree r ps cs l.number) asks
    ∙ ap (resource_spots tree r ps cs) has
    ∙ ap (λ ks. resource_spots tree r ps ks (resource ks)) picks

-- A NODE IS REACHED FROM ITSELF

some_in : {A : Type 0} (x : A) (xs : List A) → Memᴰ x xs → 0 < length xs
some_in x [] m = absurd (Memᴰ.not-nil m)
some_in x (y ∷ ys) m = omega arith

module _ (tree : Tree) (a : ℕ) (within : a < count tree) where
  first_level : (n : ℕ) → 0 < n → 0 < length (levels tree a 0 n)
  first_level zero h = absurd (omega arith)
  first_level (suc n) h =
      let m = mem_keep (at_distance tree a 0) a (nodes tree) (mem_upto a 0 (count tree) (omega arith) (omega arith)) (eq-eqb a a refl) in
      omega (arith, some_in a (level tree a 0) m, length-append (level tree a 0) (levels tree a 1 n))

  pub reached_some : (x : Extent) → 0 < length (reached tree x a)
  reached_some children = first_level 2 (omega arith)
  reached_some descendants = first_level (count tree) (omega arith)
