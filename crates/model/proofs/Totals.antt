-- A request has as many rows as its sum says. Assumes nothing.
use Rattle.std.proofs.Common.{◌≡◌, ℕ, ◌+◌, List, [], ◌∷◌, length, Some, None, Option, refl, ◌∙◌, ap₂, length-append}
use lib.ListN.{length-map}
use Rattle.std.specs.List.{flat_map}
use Rattle.model.specs.Content.{Request}
use Rattle.model.specs.Lists.{total_over}
use Rattle.model.specs.Tree.{Tree, reached, children, descendants}
use Rattle.model.specs.Points.{Point}
use Rattle.model.specs.Rows.{Listed, Listing, listings, widths, choices, chosen, Scope, scope, node_spot, scope_spots, resource_spots, resource, choice_spots, reference_spots, spots_from, spots, row_at_spot, rows, lists, unknown, faulty, itself, below}
use Rattle.model.specs.Total.{scope_total, resource_total, choice_total, reference_total, total}
use Rattle.model.proofs.Distances.{children_length, descendants_length}

pub length_joined : {A B : Type 0} (f : A → List B) (g : A → ℕ) → ((x : A) → length (f x) ≡ g x) → (xs : List A)
    → length (flat_map f xs) ≡ total_over g xs
length_joined f g e [] = refl
length_joined f g e (x ∷ xs) = length-append (f x) (flat_map f xs) ∙ ap₂ (λ a b. a + b) (e x) (length_joined f g e xs)

module _ (tree : Tree) where
  scope_length : (r : ℕ) (ps : List ℕ) (ls : List Listed) (place : ℕ) (s : Scope) → length (scope_spots tree r ps ls place s) ≡ scope_total tree s
  scope_length r ps ls place (faulty c) = refl
  scope_length r ps ls place itself = refl
  scope_length r ps ls place (below children a) = length-map (reached tree children a) (node_spot tree r ps ls) ∙ children_length tree a
  scope_length r ps ls place (below descendants a) = length-map (reached tree descendants a) (node_spot tree r ps ls) ∙ descendants_length tree a

  resource_length : (r : ℕ) (ps : List ℕ) (ls : List Listed) (o : Option Listed) → length (resource_spots tree r ps ls o) ≡ resource_total tree o
  resource_length r ps ls None = refl
  resource_length r ps ls (Some l) = scope_length r ps ls l.number (scope tree l.element)

  choice_length : (r : ℕ) (ls : List Listed) (ps : List ℕ) → length (choice_spots tree r ls ps) ≡ choice_total tree ls ps
  choice_length r ls ps = resource_length r ps (chosen ls ps) (resource (chosen ls ps))

  listing_length : (r : ℕ) (l : Listing) → length (reference_spots tree r l) ≡ reference_total tree l
  listing_length r (unknown p) = refl
  listing_length r (lists ls) = length_joined (choice_spots tree r ls) (choice_total tree ls) (choice_length r ls) (choices (widths ls))

  from_length : (r : ℕ) (ls : List Listing) → length (spots_from tree r ls) ≡ total_over (reference_total tree) ls
  from_length r [] = refl
  from_length r (l ∷ ls) =
      length-append (reference_spots tree r l) (spots_from tree (r + 1) ls) ∙ ap₂ (λ a b. a + b) (listing_length r l) (from_length (r + 1) ls)

pub spots_length : (q : Request) (tree : Tree) → length (spots q tree) ≡ total q tree
spots_length q tree = from_length tree 0 (listings q)

pub rows_length : (q : Request) (tree : Tree) (point : Point) → length (rows q tree point) ≡ total q tree
rows_length q tree point = length-map (spots q tree) (row_at_spot point) ∙ spots_length q tree
