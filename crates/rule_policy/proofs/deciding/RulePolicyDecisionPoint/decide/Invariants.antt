use Rattle.std.proofs.Common.{◌≡◌, ◌-◌, length, drop}
use Rattle.model.specs.PointFiles.{first_rule, policy_point}
use Rattle.single.specs.Single.{content}
use Rattle.rule_policy.specs.Place.{rules_of}
use Rattle.rule_policy.proofs.Judging.{settle, come}
use Rattle.rule_policy.proofs.deciding.RulePolicyDecisionPoint.decide.Given as goal

abbrev pub invariant-rules : goal.invariant-rules
invariant-rules l = first_rule (content l.request) l.next (drop l.next (rules_of l.self)) ≡ policy_point (rules_of l.self) (content l.request)

abbrev pub decreases-rules : goal.decreases-rules
decreases-rules l = length l.rules - l.next

abbrev pub invariant-loop-condition : goal.invariant-loop-condition
invariant-loop-condition l = settle l.known (come (content l.request) l.self.bytes.now (drop l.condition-index l.conditions)) ≡ come (content l.request) l.self.bytes.now l.conditions
