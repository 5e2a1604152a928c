use Rattle.rule_policy.proofs.Ruling.{rule_fails, rule_applies, rule_open}
use Rattle.rule_policy.proofs.deciding.RulePolicyDecisionPoint.decide.Goals as goal

pub rules-preserved : goal.rules-preserved
rules-preserved c = rule_fails c.args.self.now _ c.rules-rules.result.now c.rules-rules.ensures.shown c.rules.next c.in-Some.rule.now c.in-Some.ensures.lookup.3 c.conditions-conditions.result.now c.conditions-conditions.ensures c.loop-condition.condition-index c.loop-condition.known c.loop-condition.invariant _ c.rules.invariant _ c.loop-condition-test.true c.in-False.ensures

pub returns-then-known : goal.returns-then-known
returns-then-known c = rule_applies c.args.self.now _ c.rules-rules.result.now c.rules-rules.ensures.shown c.rules.next c.in-Some.rule.now c.in-Some.ensures.lookup.3 c.conditions-conditions.result.now c.conditions-conditions.ensures c.loop-condition.condition-index c.loop-condition.known c.loop-condition.invariant _ c.rules.invariant _ c.loop-condition-test.false c.if-known.true c.decision.ensures

pub returns-else-known : goal.returns-else-known
returns-else-known c = rule_open c.args.self.now _ c.rules-rules.result.now c.rules-rules.ensures.shown c.rules.next c.in-Some.rule.now c.in-Some.ensures.lookup.3 c.conditions-conditions.result.now c.conditions-conditions.ensures c.loop-condition.condition-index c.loop-condition.known c.loop-condition.invariant _ c.rules.invariant c.loop-condition-test.false c.if-known.false
