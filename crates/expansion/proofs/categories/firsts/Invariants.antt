use Rattle.std.proofs.Common.{◌≡◌, ◌≤◌, [], ◌++◌, length, drop}
use Rattle.expansion.specs.Few.{held}
use Rattle.expansion.specs.Categories.{firsts}
use Rattle.expansion.proofs.categories.firsts.Given as goal

abbrev pub invariant-loop-code : goal.invariant-loop-code
invariant-loop-code l = (held l.seen ++ firsts (held l.seen) (drop l.code-index l.code-items) ≡ firsts [] l.code-items) × (length (held l.seen) ≤ l.code-index)
