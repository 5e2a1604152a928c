use Rattle.std.proofs.Common.{take}
use Rattle.std.specs.List.{AllZip}
use Rattle.expansion.specs.Few.{held}
use Rattle.expansion.proofs.few.Few.map.Given as goal

abbrev pub invariant-loop-number : goal.invariant-loop-number
invariant-loop-number g l = goal.F-IsAlwaysCallable g l.f × AllZip (goal.F-post g l.f) (take l.number-index l.number-items) (held l.each)
