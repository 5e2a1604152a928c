use Rattle.std.proofs.Common.{◌≡◌, ◌≤◌, length, drop, None}
use Rattle.expansion.specs.Few.{held}
use Rattle.expansion.specs.Choice.{next_choice}
use Rattle.expansion.proofs.Successor.{cleared}
use Rattle.expansion.proofs.choice.next.Given as goal

-- nothing from i on can move, and it is cleared
abbrev pub invariant-loop-i : goal.invariant-loop-i
invariant-loop-i l =
    (next_choice (drop l.i l.widths) (drop l.i l.positions) ≡ None)
    × (held l.next ≡ cleared l.i l.positions)
    × (l.i ≤ length l.widths)
