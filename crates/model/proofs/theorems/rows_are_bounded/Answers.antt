use Rattle.model.proofs.Bounded.{rows_bounded}
use Rattle.model.proofs.theorems.rows_are_bounded.Goals as goal

pub returns : goal.returns
returns c = rows_bounded
