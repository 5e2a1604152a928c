use Rattle.std.proofs.Common.{◌≡◌, length, drop}
use Rattle.model.specs.Values.{same}
use Rattle.single.proofs.value.same_bytes.Given as goal

abbrev pub invariant-loop-i : goal.invariant-loop-i
invariant-loop-i l = (length l.a ≡ length l.b) × (same (drop l.i l.a) (drop l.i l.b) ≡ same l.a l.b)
