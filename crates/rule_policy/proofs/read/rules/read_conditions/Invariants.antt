use Rattle.std.proofs.Common.{◌≡◌, ◌+◌, vec_len}
use Rattle.rule_policy.proofs.read.rules.read_conditions.Given as goal
use Rattle.wire.proofs.Left.{Left}
use Rattle.model.specs.PointFiles.{one_condition}
use Rattle.rule_policy.specs.Held.{conditions_of}
use Rattle.request.specs.Tables.{added, Grows}

abbrev pub invariant-loop-number : goal.invariant-loop-number
invariant-loop-number l =
    Left one_condition l.count l.number-counter (conditions_of l.initial.reader.bytes.now (added l.initial.table l.table)) l.initial.reader l.reader
    × Grows l.number-counter l.initial.table l.table
    × (vec_len l.table ≡ vec_len l.initial.table + l.number-counter)
