use Rattle.model.proofs.Spelled.{accepted_exactly}
use Rattle.model.proofs.theorems.accepted_bytes_are_spellings.Goals as goal

pub returns : goal.returns
returns c = accepted_exactly
