use Rattle.model.proofs.Ordered.{rows_agree}
use Rattle.model.proofs.theorems.rows_agree_with_their_meaning.Goals as goal

pub returns : goal.returns
returns c = rows_agree
