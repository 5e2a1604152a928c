use Rattle.std.proofs.Common.{◌≡◌}
use Rattle.std.specs.Iterator.Adapters.{zip_first, zip_second}
use Rattle.std.specs.Slice.Iter.{iter_rest}
use Rattle.model.specs.Rows.{taken}
use Rattle.expansion.specs.Few.{held}
use Rattle.expansion.proofs.chosen.taken.Given as goal

abbrev pub invariant-loop-other : goal.invariant-loop-other
invariant-loop-other l = taken (iter_rest (zip_first l.other-iterator)) (iter_rest (zip_second l.other-iterator)) l.category ≡ taken (held l.categories) (held l.positions) l.category
