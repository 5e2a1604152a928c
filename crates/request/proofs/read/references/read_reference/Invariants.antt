use Rattle.std.proofs.Common.{◌≡◌, ◌+◌, vec_len}
use Rattle.request.proofs.read.references.read_reference.Given as goal
use Rattle.wire.proofs.Left.{Left}
use Rattle.model.specs.Content.{one_tag}
use Rattle.request.specs.Tables.{added, Grows}

abbrev pub invariant-loop-number : goal.invariant-loop-number
invariant-loop-number l =
    Left one_tag l.count l._number (added l.initial.table l.table) l.initial.reader l.reader
    × Grows l._number l.initial.table l.table
    × (vec_len l.table ≡ vec_len l.initial.table + l._number)
