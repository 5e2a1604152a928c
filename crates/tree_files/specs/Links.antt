-- The links of a tree, in ascending order. Assumes nothing.
use Rattle.std.specs.Prelude.{◌≡◌, ℕ, ◌+◌, ◌<◌, Bool, false, List, length, slice_index_or}
use Rattle.std.specs.Ordering.{is_lt, nat_cmp, ordering_then}

-- every link joins nodes below n
abbrev pub Ends : ℕ → List (ℕ × ℕ) → Type 0
Ends n links = (i : ℕ) → i < length links → ((slice_index_or links i (0, 0)).0 < n) × ((slice_index_or links i (0, 0)).1 < n)

-- by parent, then by child
abbrev pub link_less : ℕ × ℕ → ℕ × ℕ → Bool
link_less k l = is_lt (ordering_then (nat_cmp k.0 l.0) (nat_cmp k.1 l.1))

abbrev pub LinkAscending : List (ℕ × ℕ) → Type 0
LinkAscending links = (k : ℕ) → k + 1 < length links → link_less (slice_index_or links (k + 1) (0, 0)) (slice_index_or links k (0, 0)) ≡ false
