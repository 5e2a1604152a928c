-- What it is to reach nodes, in the words of paths of links alone. Assumes nothing.
use Rattle.std.specs.Prelude.{◌≡◌, ℕ, ◌<◌, ◌≤◌, ◌⊎◌, List}
use mathlib.Core.List.{Memᴰ}
use Rattle.model.specs.Order.{Sorted}
use Rattle.model.specs.Tree.{Tree, Extent, children, descendants, Path, Distance}
use Rattle.tree.specs.declared.reach.Reached.{Reached}

-- whether so many links are few enough
abbrev pub FarEnough : Extent → ℕ → Type 0
FarEnough children d = d ≤ 1
FarEnough descendants d = Unit {0}

-- by distance, then by number
abbrev pub Nearer : Reached → Reached → Type 0
Nearer r s = (r.distance < s.distance) ⊎ ((r.distance ≡ s.distance) × (r.node < s.node))

abbrev pub Unlike : Reached → Reached → Type 0
Unlike r s = r.node ≡ s.node → ⊥

-- the list holds the nodes that a path of few enough links leads to from a, and no others, each once and with its distance, in order
pub record Reaches (tree : Tree) (x : Extent) (a : ℕ) (rs : List Reached) : Type 0 where
  pub only : (r : Reached) → Memᴰ r rs → Distance tree a r.node r.distance × FarEnough x r.distance
  pub whole : (n d : ℕ) → Path tree a n d → FarEnough x d → (e : ℕ) × Memᴰ {A = Reached} (record { node = n; distance = e }) rs
  pub once : Sorted Unlike rs
  pub ordered : Sorted Nearer rs
