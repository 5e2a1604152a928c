use Rattle.std.proofs.Common.{◌≡◌, ◌*◌, ◌≤◌, vec_items, vec_len, vec_capacity}
use Rattle.request.proofs.read.references.read_references.Given as goal
use Rattle.wire.proofs.Left.{Left}
use Rattle.model.specs.Content.{one_reference}
use Rattle.request.specs.Tables.{reach, whole_span, longest}
use Rattle.request.specs.Held.{references_in}

abbrev pub invariant-loop-number : goal.invariant-loop-number
invariant-loop-number l =
    Left one_reference l.count l.number-counter (references_in l.list l.table) l.initial.reader l.reader
    × (vec_len l.list ≡ l.number-counter)
    × (vec_len l.table ≤ 16 * l.number-counter)
    × (reach whole_span (vec_items l.list) ≤ vec_len l.table)
    × (vec_capacity l.list ≡ vec_capacity l.initial.list)
    × (vec_capacity l.table ≡ vec_capacity l.initial.table)
    × (longest (vec_items l.list) ≤ 16)
