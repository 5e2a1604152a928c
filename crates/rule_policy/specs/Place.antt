-- What the place of a rule policy holds, and what is shown of it. Assumes nothing.
use mathlib.Core.List as list
use Rattle.std.specs.Prelude.{List, vec_items}
use Rattle.model.specs.PointFiles.{Rule, Condition, policy_point}
use Rattle.model.specs.Points.{Point}
use Rattle.wire.specs.declared.span.Span.{Span}
use Rattle.wire.specs.Span.{part}
use Rattle.rule_policy.specs.declared.policy.RulePolicy.{RulePolicy}
use Rattle.rule_policy.specs.declared.rule.Rule.{Rule as HeldRule}
use Rattle.rule_policy.specs.Held.{conditions_of, rule_of, rules_of_held}

abbrev pub rules_of : RulePolicy → List Rule
rules_of p = rules_of_held p.bytes.now p.index

-- rules as the place holds them
abbrev pub rules_shown : RulePolicy → List HeldRule → List Rule
rules_shown p rs = list.map (rule_of p.bytes.now (vec_items p.index.conditions)) rs

abbrev pub conditions_shown : RulePolicy → Span → List Condition
conditions_shown p s = conditions_of p.bytes.now (part (vec_items p.index.conditions) s)

abbrev pub answer_of : RulePolicy → Point
answer_of p = policy_point (rules_of p)
