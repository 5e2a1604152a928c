use Rattle.model.proofs.Conversed.{every_conversation_holds}
use Rattle.model.proofs.theorems.every_conversation_holds.Goals as goal

pub returns : goal.returns
returns c = every_conversation_holds
