-- The spots of a request, each with its distance: in order, each one of the request's, and all of them. Assumes nothing.
-- "Of the request's" is here the relation IsSpotOf, over the functions of Rows; Stands takes it on to the relations of Meaning.
use Rattle.std.proofs.Common.{◌≡◌, ℕ, suc, ◌+◌, ◌<◌, ◌≤◌, List, [], ◌∷◌, ◌++◌, map, Some, None, Option, sym, refl, ap, ◌∙◌, subst, ap₂, inl, inr, ⊎_elim, arith}
use mathlib.Core.List.Memᴰ
use mathlib.Core.List.{Memᴰ}
use Rattle.std.specs.List.{flat_map}
use Rattle.std.proofs.lemmas.List.{map-append}
use Rattle.model.specs.declared.decision.Cause.TheVariants.{UnknownTag}
use Rattle.model.specs.Order.{Sorted}
use Rattle.model.specs.Content.{Request}
use Rattle.model.specs.Lists.{At}
use Rattle.model.specs.Tree.{Tree, count, Limits, Distance, Extent, depth, children, descendants}
use Rattle.model.specs.Points.{Point}
use Rattle.model.specs.Rows.{Listed, Listing, listings, widths, choices, chosen, Scope, scope, Spot, single_spot, fault_spot, node_spot, scope_spots, resource_spots, resource, choice_spots, reference_spots, spots_from, row_at_spot, rows, lists, unknown, faulty, itself, below}
use Rattle.model.specs.Meaning.{Less, InExtent, Before}
use Rattle.model.proofs.Members.{sorted_append, sorted_map, mem_joined, of_joined, sorted_joined, map_joined, map_map}
use Rattle.model.proofs.Distances.{distance_below_count, distance_of, of_distance, ends_at_node, levels_with, Nearer, nodes_of_levels, of_levels, mem_levels, sorted_levels}
use Rattle.model.proofs.Choices.{Within, mem_choices, of_choices, sorted_choices}
use Rattle.model.proofs.Asked.{asked_node}
use Rattle.model.proofs.SpotOf.{IsSpotOf, SpotBefore}

abbrev pub spots_of : List (Spot × ℕ) → List Spot
spots_of ss = map (λ s. s.0) ss

module _ (tree : Tree) where
  -- the nodes reached, each with its distance
  abbrev pub nodes_with : Extent → ℕ → List (ℕ × ℕ)
  nodes_with x a = levels_with tree a 0 (depth tree x)

  -- THE SPOTS, EACH WITH ITS DISTANCE

  abbrev pub placed : ℕ → List ℕ → List Listed → ℕ × ℕ → Spot × ℕ
  placed r ps ls s = (single_spot tree r ps ls (Some s.0), s.1)

  abbrev pub scope_with : ℕ → List ℕ → List Listed → ℕ → Scope → List (Spot × ℕ)
  scope_with r ps ls place (faulty c) = (fault_spot r (Some ps) c place, 0) ∷ []
  scope_with r ps ls place itself = (single_spot tree r ps ls None, 0) ∷ []
  scope_with r ps ls place (below x a) = map (placed r ps ls) (nodes_with x a)

  abbrev pub found_with : ℕ → List ℕ → List Listed → Option Listed → List (Spot × ℕ)
  found_with r ps ls None = (single_spot tree r ps ls None, 0) ∷ []
  found_with r ps ls (Some l) = scope_with r ps ls l.number (scope tree l.element)

  abbrev pub choice_with : ℕ → List Listed → List ℕ → List (Spot × ℕ)
  choice_with r all ps = found_with r ps (chosen all ps) (resource (chosen all ps))

  abbrev pub listing_with : ℕ → Listing → List (Spot × ℕ)
  listing_with r (unknown p) = (fault_spot r None UnknownTag p, 0) ∷ []
  listing_with r (lists ls) = flat_map (choice_with r ls) (choices (widths ls))

  abbrev pub all_with : ℕ → List Listing → List (Spot × ℕ)
  all_with r [] = []
  all_with r (l ∷ ls) = listing_with r l ++ all_with (r + 1) ls

  -- without the distances they are the spots that Rows computes
  placed_spots : (r : ℕ) (ps : List ℕ) (ls : List Listed) (xs : List (ℕ × ℕ))
      → spots_of (map (placed r ps ls) xs) ≡ map (node_spot tree r ps ls) (map (λ (s : ℕ × ℕ). s.0) xs)
  placed_spots r ps ls [] = refl
  placed_spots r ps ls (x ∷ xs) = ap (λ (t : List Spot). single_spot tree r ps ls (Some x.0) ∷ t) (placed_spots r ps ls xs)

  scope_with_spots : (r : ℕ) (ps : List ℕ) (ls : List Listed) (place : ℕ) (s : Scope)
      → spots_of (scope_with r ps ls place s) ≡ scope_spots tree r ps ls place s
  scope_with_spots r ps ls place (faulty c) = refl
  scope_with_spots r ps ls place itself = refl
  scope_with_spots r ps ls place (below x a) =
      placed_spots r ps ls (nodes_with x a) ∙ ap (λ xs. map (node_spot tree r ps ls) xs) (nodes_of_levels tree a 0 (depth tree x))

  choice_with_spots : (r : ℕ) (all : List Listed) (ps : List ℕ) → spots_of (choice_with r all ps) ≡ choice_spots tree r all ps
  choice_with_spots r all ps = on (resource (chosen all ps))
    where
      on : (o : Option Listed) → spots_of (found_with r ps (chosen all ps) o) ≡ resource_spots tree r ps (chosen all ps) o
      on None = refl
      on (Some l) = scope_with_spots r ps (chosen all ps) l.number (scope tree l.element)

  listing_spots : (r : ℕ) (l : Listing) → spots_of (listing_with r l) ≡ reference_spots tree r l
  listing_spots r (unknown p) = refl
  listing_spots r (lists ls) =
      map_joined (choice_with r ls) (λ (s : Spot × ℕ). s.0) (choice_spots tree r ls) (choice_with_spots r ls) (choices (widths ls))

  pub all_spots : (r : ℕ) (ls : List Listing) → spots_of (all_with r ls) ≡ spots_from tree r ls
  all_spots r [] = refl
  all_spots r (l ∷ ls) =
      map-append (λ (s : Spot × ℕ). s.0) (listing_with r l) (all_with (r + 1) ls)
      ∙ ap₂ (λ (x y : List Spot). x ++ y) (listing_spots r l) (all_spots (r + 1) ls)

  -- IN ORDER

  abbrev Stands : ℕ → List ℕ → Spot × ℕ → Type 0
  Stands r ps s = (s.0.reference ≡ r) × (s.0.choice ≡ Some ps)

  scope_stands : (r : ℕ) (ps : List ℕ) (ls : List Listed) (place : ℕ) (c : Scope) (s : Spot × ℕ) → Memᴰ s (scope_with r ps ls place c)
      → Stands r ps s
  scope_stands r ps ls place (faulty c) s m = subst (Stands r ps) (sym (Memᴰ.eq_of_singleton m)) (refl, refl)
  scope_stands r ps ls place itself s m = subst (Stands r ps) (sym (Memᴰ.eq_of_singleton m)) (refl, refl)
  scope_stands r ps ls place (below x a) s m = let y = Memᴰ.of_map (placed r ps ls) (nodes_with x a) m in subst (Stands r ps) y.2 (refl, refl)

  found_stands : (r : ℕ) (ps : List ℕ) (ls : List Listed) (o : Option Listed) (s : Spot × ℕ) → Memᴰ s (found_with r ps ls o) → Stands r ps s
  found_stands r ps ls None s m = subst (Stands r ps) (sym (Memᴰ.eq_of_singleton m)) (refl, refl)
  found_stands r ps ls (Some l) s m = scope_stands r ps ls l.number (scope tree l.element) s m

  listing_stands : (r : ℕ) (l : Listing) (s : Spot × ℕ) → Memᴰ s (listing_with r l) → s.0.reference ≡ r
  listing_stands r (unknown p) s m = subst (λ (t : Spot × ℕ). t.0.reference ≡ r) (sym (Memᴰ.eq_of_singleton m)) refl
  listing_stands r (lists ls) s m =
      let x = of_joined (choice_with r ls) s (choices (widths ls)) m in
      (found_stands r x.0 (chosen ls x.0) (resource (chosen ls x.0)) s x.2).0

  all_stand : (r : ℕ) (ls : List Listing) (s : Spot × ℕ) → Memᴰ s (all_with r ls) → r ≤ s.0.reference
  all_stand r [] s m = absurd (Memᴰ.not-nil m)
  all_stand r (l ∷ ls) s m =
      ⊎_elim (λ n. omega (arith, listing_stands r l s n)) (λ n. omega (arith, all_stand (r + 1) ls s n))
      (Memᴰ.append_cases (listing_with r l) m)

  sorted_one : (s : Spot × ℕ) → Sorted (SpotBefore tree) (s ∷ [])
  sorted_one s = (λ y m. absurd (Memᴰ.not-nil m), tt)

  nearer_earlier : (r : ℕ) (ps : List ℕ) (ls : List Listed) (s t : ℕ × ℕ) → Nearer tree s t → SpotBefore tree (placed r ps ls s) (placed r ps ls t)
  nearer_earlier r ps ls s t (inl l) = Before.by_distance refl refl l
  nearer_earlier r ps ls s t (inr h) = Before.by_node refl refl h.0 refl refl h.1

  sorted_scope : (r : ℕ) (ps : List ℕ) (ls : List Listed) (place : ℕ) (c : Scope) → Sorted (SpotBefore tree) (scope_with r ps ls place c)
  sorted_scope r ps ls place (faulty c) = sorted_one (fault_spot r (Some ps) c place, 0)
  sorted_scope r ps ls place itself = sorted_one (single_spot tree r ps ls None, 0)
  sorted_scope r ps ls place (below x a) =
      sorted_map (placed r ps ls) (Nearer tree) (SpotBefore tree) (nearer_earlier r ps ls) (nodes_with x a)
      (sorted_levels tree a 0 (depth tree x))

  sorted_found : (r : ℕ) (ps : List ℕ) (ls : List Listed) (o : Option Listed) → Sorted (SpotBefore tree) (found_with r ps ls o)
  sorted_found r ps ls None = sorted_one (single_spot tree r ps ls None, 0)
  sorted_found r ps ls (Some l) = sorted_scope r ps ls l.number (scope tree l.element)

  sorted_listing : (r : ℕ) (l : Listing) → Sorted (SpotBefore tree) (listing_with r l)
  sorted_listing r (unknown p) = sorted_one (fault_spot r None UnknownTag p, 0)
  sorted_listing r (lists ls) =
      sorted_joined (choice_with r ls) Less (SpotBefore tree) (choices (widths ls)) (sorted_choices (widths ls))
      (λ ps m. sorted_found r ps (chosen ls ps) (resource (chosen ls ps)))
      (λ ps qs u v l m n.
      let a = found_stands r ps (chosen ls ps) (resource (chosen ls ps)) u m in
      let b = found_stands r qs (chosen ls qs) (resource (chosen ls qs)) v n in
      Before.by_choice (a.0 ∙ sym b.0) a.1 b.1 l)

  pub sorted_all : (r : ℕ) (ls : List Listing) → Sorted (SpotBefore tree) (all_with r ls)
  sorted_all r [] = tt
  sorted_all r (l ∷ ls) =
      sorted_append (SpotBefore tree) (listing_with r l) (all_with (r + 1) ls) (sorted_listing r l) (sorted_all (r + 1) ls)
      (λ s t m n. Before.by_reference (omega (arith, listing_stands r l s m, all_stand (r + 1) ls t n)))

module _ (request : Request) (tree : Tree) (limits : Limits tree) where
  abbrev OfIt : Spot × ℕ → Type 0
  OfIt s = IsSpotOf request tree s.0 s.1

  -- EACH IS ONE OF THE REQUEST'S

  module _ (r : ℕ) (ls : List Listed) (at : At r (lists ls) (listings request)) (ps : List ℕ) (c : Within ps (widths ls)) where
    sound_node : (l : Listed) (x : Extent) (a : ℕ) → resource (chosen ls ps) ≡ Some l → scope tree l.element ≡ below x a → (y : ℕ × ℕ)
        → Memᴰ y (nodes_with tree x a) → OfIt (placed tree r ps (chosen ls ps) y)
    sound_node l children a e q x m =
        let h = of_levels tree a 0 2 x m in
        IsSpotOf.at_node at c e q (distance_of tree a limits x.1 x.0 h.3) (omega arith)
    sound_node l descendants a e q x m =
        let h = of_levels tree a 0 (count tree) x m in
        IsSpotOf.at_node at c e q (distance_of tree a limits x.1 x.0 h.3) tt

    sound_scope : (l : Listed) → resource (chosen ls ps) ≡ Some l → (k : Scope) → scope tree l.element ≡ k → (s : Spot × ℕ)
        → Memᴰ s (scope_with tree r ps (chosen ls ps) l.number k) → OfIt s
    sound_scope l e (faulty n) q s m = subst OfIt (sym (Memᴰ.eq_of_singleton m)) (IsSpotOf.bad_scope at c e q)
    sound_scope l e itself q s m = subst OfIt (sym (Memᴰ.eq_of_singleton m)) (IsSpotOf.whole at c e q)
    sound_scope l e (below x a) q s m =
        let y = Memᴰ.of_map (placed tree r ps (chosen ls ps)) (nodes_with tree x a) m in
        subst OfIt y.2 (sound_node l x a e q y.0 y.1)

    sound_found : (o : Option Listed) → resource (chosen ls ps) ≡ o → (s : Spot × ℕ) → Memᴰ s (found_with tree r ps (chosen ls ps) o) → OfIt s
    sound_found None e s m = subst OfIt (sym (Memᴰ.eq_of_singleton m)) (IsSpotOf.no_resource at c e)
    sound_found (Some l) e s m = sound_scope l e (scope tree l.element) refl s m

  sound_listing : (r : ℕ) (l : Listing) → At r l (listings request) → (s : Spot × ℕ) → Memᴰ s (listing_with tree r l) → OfIt s
  sound_listing r (unknown p) at s m = subst OfIt (sym (Memᴰ.eq_of_singleton m)) (IsSpotOf.bad_reference at)
  sound_listing r (lists ls) at s m =
      let x = of_joined (choice_with tree r ls) s (choices (widths ls)) m in
      sound_found r ls at x.0 (of_choices x.0 (widths ls) x.1) (resource (chosen ls x.0)) refl s x.2

  sound_from : (r : ℕ) (ls : List Listing) → ((i : ℕ) (l : Listing) → At i l ls → At (r + i) l (listings request)) → (s : Spot × ℕ)
      → Memᴰ s (all_with tree r ls) → OfIt s
  sound_from r [] f s m = absurd (Memᴰ.not-nil m)
  sound_from r (l ∷ ls) f s m = ⊎_elim
      (sound_listing r l (subst (λ i. At i l (listings request)) {x = r + 0} {y = r} (omega arith) (f 0 l At.first)) s)
      (sound_from (r + 1) ls (λ i k h. subst (λ j. At j k (listings request)) {x = r + suc i} {y = r + 1 + i} (omega arith)
      (f (suc i) k (At.later h))) s)
      (Memᴰ.append_cases (listing_with tree r l) m)

  pub sound_all : (s : Spot × ℕ) → Memᴰ s (all_with tree 0 (listings request)) → OfIt s
  sound_all = sound_from 0 (listings request) (λ i l h. subst (λ j. At j l (listings request)) {x = i} {y = 0 + i} (omega arith) h)

  -- ALL OF THE REQUEST'S ARE THERE

  mem_from : (i : ℕ) (l : Listing) (ls : List Listing) → At i l ls → (r : ℕ) (s : Spot × ℕ) → Memᴰ s (listing_with tree (r + i) l)
      → Memᴰ s (all_with tree r ls)
  mem_from i l ls (At.first {xs = ks}) r s m =
      Memᴰ.append_left (all_with tree (r + 1) ks) (subst (λ j. Memᴰ s (listing_with tree j l)) {x = r + 0} {y = r} (omega arith) m)
  mem_from i l ls (At.later {y = k} {xs = ks} {n = j} h) r s m =
      Memᴰ.append_right (listing_with tree r k) (mem_from j l ks h (r + 1) s
      (subst (λ n. Memᴰ s (listing_with tree n l)) {x = r + suc j} {y = r + 1 + j} (omega arith) m))

  mem_at : (r : ℕ) (l : Listing) (s : Spot × ℕ) → At r l (listings request) → Memᴰ s (listing_with tree r l)
      → Memᴰ s (all_with tree 0 (listings request))
  mem_at r l s at m = mem_from r l (listings request) at 0 s (subst (λ j. Memᴰ s (listing_with tree j l)) {x = r} {y = 0 + r} (omega arith) m)

  mem_choice : (r : ℕ) (ls : List Listed) (ps : List ℕ) (s : Spot × ℕ) → At r (lists ls) (listings request) → Within ps (widths ls)
      → (o : Option Listed) → resource (chosen ls ps) ≡ o → Memᴰ s (found_with tree r ps (chosen ls ps) o)
      → Memᴰ s (all_with tree 0 (listings request))
  mem_choice r ls ps s at c o e m =
      mem_at r (lists ls) s at (mem_joined (choice_with tree r ls) ps s (choices (widths ls)) (mem_choices ps (widths ls) c)
      (subst (λ v. Memᴰ s (found_with tree r ps (chosen ls ps) v)) (sym e) m))

  mem_scope : (r : ℕ) (ls : List Listed) (ps : List ℕ) (l : Listed) (s : Spot × ℕ) → At r (lists ls) (listings request) → Within ps (widths ls)
      → resource (chosen ls ps) ≡ Some l → (k : Scope) → scope tree l.element ≡ k
      → Memᴰ s (scope_with tree r ps (chosen ls ps) l.number k) → Memᴰ s (all_with tree 0 (listings request))
  mem_scope r ls ps l s at c e k q m =
      mem_choice r ls ps s at c (Some l) e (subst (λ v. Memᴰ s (scope_with tree r ps (chosen ls ps) l.number v)) (sym q) m)

  mem_nodes : (x : Extent) (a n d : ℕ) → a < count tree → Distance tree a n d → InExtent x d → Memᴰ {A = ℕ × ℕ} (n, d) (nodes_with tree x a)
  mem_nodes children a n d l h i =
      mem_levels tree a 0 2 n d (omega arith) (omega arith) (ends_at_node tree a limits n d l h.0) (of_distance tree a limits d n h)
  mem_nodes descendants a n d l h i =
      let b = ends_at_node tree a limits n d l h.0 in
      let e = of_distance tree a limits d n h in
      mem_levels tree a 0 (count tree) n d (omega arith) (omega (arith, distance_below_count tree a d n b e)) b e

  pub complete_all : (s : Spot) (d : ℕ) → IsSpotOf request tree s d → Memᴰ {A = Spot × ℕ} (s, d) (all_with tree 0 (listings request))
  complete_all s d (IsSpotOf.bad_reference {r} {p} at) = mem_at r (unknown p) (fault_spot r None UnknownTag p, 0) at (Memᴰ.head refl)
  complete_all s d (IsSpotOf.no_resource {r} {ls} {ps} at c e) =
      mem_choice r ls ps (single_spot tree r ps (chosen ls ps) None, 0) at c None e (Memᴰ.head refl)
  complete_all s d (IsSpotOf.bad_scope {r} {c = k} {ls} {ps} {l} at c e q) =
      mem_scope r ls ps l (fault_spot r (Some ps) k l.number, 0) at c e (faulty k) q (Memᴰ.head refl)
  complete_all s d (IsSpotOf.whole {r} {ls} {ps} {l} at c e q) =
      mem_scope r ls ps l (single_spot tree r ps (chosen ls ps) None, 0) at c e itself q (Memᴰ.head refl)
  complete_all s d (IsSpotOf.at_node {r} {a} {n} {d = j} {ls} {ps} {l} {x} at c e q h i) =
      mem_scope r ls ps l (single_spot tree r ps (chosen ls ps) (Some n), j) at c e (below x a) q
      (Memᴰ.map (placed tree r ps (chosen ls ps)) (mem_nodes x a n j (asked_node tree l.element x a q) h i))

-- the rows, by the spots with their distances
pub rows_with : (request : Request) (tree : Tree) (point : Point)
    → rows request tree point ≡ map (λ s. row_at_spot point s.0) (all_with tree 0 (listings request))
rows_with request tree point =
    ap (map (row_at_spot point)) (sym (all_spots tree 0 (listings request)))
    ∙ map_map (row_at_spot point) (λ (s : Spot × ℕ). s.0) (all_with tree 0 (listings request))
