use Rattle.std.proofs.Common.{◌≡◌, ◌≤◌, vec_items, vec_len}
use Rattle.model.specs.PointFiles.{one_line}
use Rattle.wire.proofs.Left.{Left}
use Rattle.grants.specs.Held.{lines_of}
use Rattle.grants.specs.Order.{Indexed}
use Rattle.grants.proofs.lines.Lines.read_lines.Given as goal

abbrev pub invariant-loop-number : goal.invariant-loop-number
invariant-loop-number l =
    Left one_line l.count l.number-counter (lines_of l.initial.reader.bytes.now l.self) l.initial.reader l.reader
    × Indexed (lines_of l.initial.reader.bytes.now l.self) (vec_items l.self.order)
    × (vec_len l.self.lines ≡ l.number-counter)
    × (vec_len l.self.order ≤ l.number-counter)
