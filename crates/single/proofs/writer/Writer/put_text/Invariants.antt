use Rattle.std.proofs.Common.{take}
use Rattle.single.specs.Laid.{Laid}
use Rattle.single.proofs.writer.Writer.put_text.Given as goal

abbrev pub invariant-loop-byte : goal.invariant-loop-byte
invariant-loop-byte l = Laid l.initial.self l.self (take l.byte-index l.byte-items)
