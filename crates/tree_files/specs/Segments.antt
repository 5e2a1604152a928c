-- Paths, in the words of segments. Assumes nothing.
use Rattle.std.specs.Prelude.{◌≡◌, ℕ, ◌<◌, ◌≤◌, true, ◌&&◌, ◌↔◌, List, [], ◌∷◌, ◌++◌, length, Some, None, Option, ◌≢◌, nat_lt, slice_index, slice_index_or}
use mathlib.Core.List.{Memᴰ}
use Rattle.model.specs.Tree.{Tree, count}
use Rattle.model.specs.TreeFiles.{separator, child_path, linked_by_path, has_link}

-- the second is the first, one separator and one segment, which is not empty and has no separator
pub record ChildOf (parent child : List ℕ) : Type 0 where
  pub segment : List ℕ
  pub named : child ≡ parent ++ separator ∷ segment
  pub some : 1 ≤ length segment
  pub plain : Memᴰ separator segment → ⊥

-- links lead from each node to its children and nowhere else
abbrev pub BySegments : Tree → Type 0
BySegments tree = (p c : ℕ) → (tree.linked p c ≡ true) ↔ ((p < count tree) × (c < count tree) × ChildOf (slice_index_or tree.names p []) (slice_index_or tree.names c []))

-- AS THE CODE FINDS IT

-- the last separator among the first n bytes
abbrev pub LastSeparator : List ℕ → ℕ → Option ℕ → Type 0
LastSeparator path n None = (k : ℕ) → k < n → slice_index path k ≢ separator
LastSeparator path n (Some i) = (i < n) × (slice_index path i ≡ separator) × ((k : ℕ) → i < k → k < n → slice_index path k ≢ separator)

-- the only path that the path is a child of
abbrev pub Parent : List ℕ → Option (List ℕ) → Type 0
Parent path None = (p : List ℕ) → child_path p path ≢ true
Parent path (Some q) = (child_path q path ≡ true) × ((p : List ℕ) → child_path p path ≡ true → p ≡ q)

-- the only node that the path is a child of
abbrev pub ParentNode : List (List ℕ) → List ℕ → Option ℕ → Type 0
ParentNode texts path None = (p : ℕ) → p < length texts → child_path (slice_index_or texts p []) path ≢ true
ParentNode texts path (Some n) = (n < length texts) × (child_path (slice_index_or texts n []) path ≡ true) × ((p : ℕ) → p < length texts → child_path (slice_index_or texts p []) path ≡ true → p ≡ n)

-- the links to the children below i
abbrev pub LinkedBelow : List (List ℕ) → List (ℕ × ℕ) → ℕ → Type 0
LinkedBelow texts links i = (p c : ℕ) → has_link links p c ≡ (nat_lt c i && linked_by_path texts p c)
