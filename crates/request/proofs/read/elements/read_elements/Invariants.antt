use Rattle.std.proofs.Common.{◌≡◌, ◌*◌, ◌≤◌, vec_items, vec_len, vec_capacity}
use Rattle.request.proofs.read.elements.read_elements.Given as goal
use Rattle.wire.proofs.Left.{Left}
use Rattle.model.specs.Content.{one_element}
use Rattle.request.specs.Tables.{reach, element_span}
use Rattle.request.specs.Held.{elements_in}

abbrev pub invariant-loop-number : goal.invariant-loop-number
invariant-loop-number l =
    Left one_element l.count l.number-counter (elements_in l.initial.reader.bytes.now l.list l.table) l.initial.reader l.reader
    × (vec_len l.list ≡ l.number-counter)
    × (vec_len l.table ≤ 8 * l.number-counter)
    × (reach element_span (vec_items l.list) ≤ vec_len l.table)
    × (vec_capacity l.list ≡ vec_capacity l.initial.list)
    × (vec_capacity l.table ≡ vec_capacity l.initial.table)
