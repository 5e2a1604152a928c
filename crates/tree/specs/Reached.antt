-- What a reach holds. Assumes nothing.
use Rattle.std.specs.Prelude.{◌≡◌, ℕ, zero, suc, ◌+◌, ◌-◌, ◌<◌, Bool, false, not, ◌&&◌, ◌||◌, List, [], ◌++◌, map, slice_index_or}
use Rattle.model.specs.Tree.{Tree, level, Extent, children, descendants}
use Rattle.tree.specs.declared.extent.Extent.{Extent as ToldExtent}
use Rattle.tree.specs.declared.extent.Extent.TheVariants.{Children, Descendants}
use Rattle.tree.specs.declared.reach.Reached.{Reached}

abbrev pub extent_of : ToldExtent → Extent
extent_of Children = children
extent_of Descendants = descendants

abbrev pub farthest_of : Extent → ℕ → ℕ
farthest_of children count = 1
farthest_of descendants count = count - 1

abbrev pub node_of : Reached → ℕ
node_of r = r.node

abbrev pub nodes_reached : List Reached → List ℕ
nodes_reached rs = map node_of rs

abbrev pub at_distance : ℕ → ℕ → Reached
at_distance d n = record { node = n; distance = d }

abbrev pub all_at : ℕ → List ℕ → List Reached
all_at d ns = map (at_distance d) ns

-- found, and not seen before
abbrev pub fresh : List Bool → List Bool → ℕ → Bool
fresh found seen n = slice_index_or found n false && not (slice_index_or seen n false)

-- the nodes at n distances from d on, each with its distance
abbrev pub levels_at : Tree → ℕ → ℕ → ℕ → List Reached
levels_at tree a d zero = []
levels_at tree a d (suc n) = all_at d (level tree a d) ++ levels_at tree a (d + 1) n

-- below a number, what was marked is marked, and so are the nodes that pass
abbrev pub Marked : ℕ → List Bool → List Bool → (ℕ → Bool) → Type 0
Marked most before after p = (k : ℕ) → k < most → slice_index_or after k false ≡ (slice_index_or before k false || p k)
