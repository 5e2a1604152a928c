use Rattle.std.proofs.Common.{◌≡◌, drop, ap, ◌∙◌, arith, rules}
use Rattle.std.proofs.lemmas.List.{map_push}
use Rattle.model.specs.PointFiles.{one_condition}
use Rattle.model.specs.Layout.{got}
use Rattle.wire.specs.Told.{from}
use Rattle.wire.proofs.Left.{one_less, left_more}
use Rattle.request.specs.Tables.{added}
use Rattle.request.proofs.Tables.{grows_push, added_push}
use Rattle.rule_policy.specs.Held.{condition_of, conditions_of}
use Rattle.rule_policy.proofs.read.rules.read_conditions.Goals as goal

pub returns-in_err-condition-clause-read : goal.returns-in_err-condition-clause-read
returns-in_err-condition-clause-read c = search (rules, one_less)

pub loop-number-preserved : goal.loop-number-preserved
loop-number-preserved c =
    let k = c.loop-number.invariant in
    let i = c.loop-number.number-counter in
    let t = c.args.table.now in
    let u = c.push_reserved.new.self in
    let x = c.in_ok-condition.condition in
    let p = c.push_reserved.ensures in
    let of = conditions_of c.code.new.self.bytes.now in
    let one = condition_of c.code.new.self.bytes.now in
    let held = of (added t c.loop-number.table) in
    let after = c.read_condition-read.new.reader in
    let r : got (one x) after.place (drop after.place after.bytes.now) ≡ from c.loop-number.reader (one_condition i held) = search rules in
    let m = ap of (added_push i t c.loop-number.table u x k.1 p.items p.len p.capacity) ∙ map_push one (added t c.loop-number.table) x in
    let l = left_more one_condition c.from-count.result i held (of (added t u)) c.code.new.self c.loop-number.reader after (one x) k.0 (omega arith) m c.read_condition-read.ensures.same r in
    (l, grows_push i t c.loop-number.table u x k.1 p.items p.len p.capacity, omega arith)
