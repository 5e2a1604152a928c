use Rattle.model.proofs.TreeSpelled.{trees_accepted_exactly}
use Rattle.model.proofs.theorems.accepted_trees_are_spellings.Goals as goal

pub returns : goal.returns
returns c = trees_accepted_exactly
