use Rattle.std.proofs.Common.{◌-◌, ◌≤◌, length, Ordering}
use Rattle.std.specs.Fn.{ComputesKey, always_mut}
use Rattle.wire.proofs.Narrowed.{Narrowed}
use Rattle.wire.proofs.search.search_by.Given as goal

-- what any order by which the calls answer says of the items that are out
abbrev pub invariant-loop-low : goal.invariant-loop-low
invariant-loop-low g l =
    (l.low ≤ l.high)
    × (l.high ≤ length l.items)
    × always_mut g.F.FnMut l.compare
    × ((ord : g.row.T.Denot → Ordering) → ComputesKey g.F.FnMut ord l.initial.compare → ComputesKey g.F.FnMut ord l.compare × Narrowed ord l.items l.low l.high)

abbrev pub decreases-loop-low : goal.decreases-loop-low
decreases-loop-low g l = l.high - l.low
