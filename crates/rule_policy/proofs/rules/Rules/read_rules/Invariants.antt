use Rattle.std.proofs.Common.{◌≡◌, ◌*◌, ◌≤◌, vec_items, vec_len}
use Rattle.model.specs.PointFiles.{one_rule}
use Rattle.wire.proofs.Left.{Left}
use Rattle.request.specs.Tables.{reach}
use Rattle.rule_policy.specs.Held.{rules_of_held, rule_span}
use Rattle.rule_policy.proofs.rules.Rules.read_rules.Given as goal

abbrev pub invariant-loop-number : goal.invariant-loop-number
invariant-loop-number l =
    Left one_rule l.count l.number-counter (rules_of_held l.initial.reader.bytes.now l.self) l.initial.reader l.reader
    × (vec_len l.self.rules ≡ l.number-counter)
    × (vec_len l.self.conditions ≤ 4 * l.number-counter)
    × (reach rule_span (vec_items l.self.rules) ≤ vec_len l.self.conditions)
