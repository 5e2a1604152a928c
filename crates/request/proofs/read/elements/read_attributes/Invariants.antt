use Rattle.std.proofs.Common.{◌≡◌, ◌+◌, vec_len}
use Rattle.request.proofs.read.elements.read_attributes.Given as goal
use Rattle.wire.proofs.Left.{Left}
use Rattle.model.specs.Content.{one_attribute}
use Rattle.request.specs.Held.{attributes_of_held}
use Rattle.request.specs.Tables.{added, Grows}

abbrev pub invariant-loop-number : goal.invariant-loop-number
invariant-loop-number l =
    Left one_attribute l.count l.number-counter (attributes_of_held l.initial.reader.bytes.now (added l.initial.table l.table)) l.initial.reader l.reader
    × Grows l.number-counter l.initial.table l.table
    × (vec_len l.table ≡ vec_len l.initial.table + l.number-counter)
