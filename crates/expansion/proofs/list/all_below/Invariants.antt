use Rattle.std.proofs.Common.{◌≡◌}
use Rattle.model.specs.Lists.{upto}
use Rattle.expansion.specs.Few.{held}
use Rattle.expansion.proofs.list.all_below.Given as goal

abbrev pub invariant-loop-number : goal.invariant-loop-number
invariant-loop-number l = held l.all ≡ upto 0 l.number
