use Rattle.std.proofs.Common.{sym}
use Rattle.single.proofs.Values.{same_unequal}
use Rattle.single.proofs.value.same_bytes.Goals as goal

pub returns-then-a-b : goal.returns-then-a-b
returns-then-a-b c = sym (same_unequal _ _ c.if-a-b.true)
