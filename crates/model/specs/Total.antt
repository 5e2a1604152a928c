-- How many rows a request has: the sum over all references and choices, and its bound. Assumes nothing.
use Rattle.std.specs.Prelude.{◌≡◌, ℕ, ◌*◌, ◌≤◌, Bool, List, length, Some, None, Ok, Option}
use Rattle.model.specs.Content.{Request, read_request}
use Rattle.model.specs.Lists.{keep, total_over}
use Rattle.model.specs.Tree.{Tree, Limits, Extent, children, descendants, count, nodes, near}
use Rattle.model.specs.Points.{Point}
use Rattle.model.specs.Rows.{Listing, Listed, lists, unknown, listings, widths, choices, chosen, Scope, faulty, itself, below, scope, resource, rows}

module _ (tree : Tree) where
  -- whether a node is reached from a
  abbrev pub is_reached : Extent → ℕ → ℕ → Bool
  is_reached children a n = near tree a 1 n
  is_reached descendants a n = near tree a (count tree) n

  -- one for a fault row and for a row without a node; otherwise the nodes reached
  abbrev pub scope_total : Scope → ℕ
  scope_total (faulty cause) = 1
  scope_total itself = 1
  scope_total (below x a) = length (keep (is_reached x a) (nodes tree))

  abbrev pub resource_total : Option Listed → ℕ
  resource_total None = 1
  resource_total (Some l) = scope_total (scope tree l.element)

  abbrev pub choice_total : List Listed → List ℕ → ℕ
  choice_total ls ps = resource_total (resource (chosen ls ps))

  abbrev pub reference_total : Listing → ℕ
  reference_total (unknown p) = 1
  reference_total (lists ls) = total_over (choice_total ls) (choices (widths ls))

abbrev pub total : Request → Tree → ℕ
total q tree = total_over (reference_total tree) (listings q)

-- at most 16 references, each of at most 324 choices, each of at most 1,024 nodes
abbrev pub most_rows : ℕ
most_rows = 16 * 324 * 1024

abbrev pub RowsBounded : Type 0
RowsBounded = (bytes : List ℕ) (q : Request) (tree : Tree) (point : Point) → read_request bytes ≡ Ok q → Limits tree
    → (length (rows q tree point) ≡ total q tree) × (length (rows q tree point) ≤ most_rows)
