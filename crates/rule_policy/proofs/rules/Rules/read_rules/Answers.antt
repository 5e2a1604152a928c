use Rattle.std.proofs.Common.{◌≡◌, drop, arith, rules}
use Rattle.model.specs.PointFiles.{one_rule}
use Rattle.model.specs.Layout.{got}
use Rattle.wire.specs.Told.{from}
use Rattle.wire.proofs.Left.{one_less, left_more}
use Rattle.request.proofs.Tables.{reach_push}
use Rattle.rule_policy.specs.Held.{rule_at, rules_in, rule_span}
use Rattle.rule_policy.proofs.Tables.{rules_push}
use Rattle.rule_policy.proofs.rules.Rules.read_rules.Goals as goal

pub returns-in_err-rule : goal.returns-in_err-rule
returns-in_err-rule c = search (rules, one_less)

pub loop-number-preserved : goal.loop-number-preserved
loop-number-preserved c =
    let k = c.loop-number.invariant in
    let n = c.loop-number.number-counter in
    let bytes = c.code.new.self.bytes.now in
    let o = c.read_rule-read.ensures in
    let i = c.push_reserved.ensures.items in
    let x = c.in_ok-rule.rule in
    let old = c.loop-number.self in
    let u = c.read_rule-read.new.table in
    let after = c.read_rule-read.new.reader in
    let held = rules_in bytes old.rules old.conditions in
    let one = rule_at u bytes x in
    let r : got one after.place (drop after.place after.bytes.now) ≡ from c.loop-number.reader (one_rule n held) = search rules in
    let m = rules_push bytes 4 old.rules c.push_reserved.new.self old.conditions u x o.grows k.3 i in
    let l = left_more one_rule c.from-count.result n held (rules_in bytes c.push_reserved.new.self u) c.code.new.self c.loop-number.reader after one k.0 (omega arith) m o.read.same r in
    let e = reach_push rule_span old.rules c.push_reserved.new.self old.conditions.len u.len x k.3 o.grows.low (search rules) i in
    (l, omega arith, omega arith, e)
