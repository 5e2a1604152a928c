use Rattle.model.proofs.PointSpelled.{points_accepted_exactly}
use Rattle.model.proofs.theorems.accepted_points_are_spellings.Goals as goal

pub returns : goal.returns
returns c = points_accepted_exactly
