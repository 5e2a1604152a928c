use Rattle.model.proofs.Settled.{answers_are_settled}
use Rattle.model.proofs.theorems.answers_are_settled.Goals as goal

pub returns : goal.returns
returns c = answers_are_settled
