use Rattle.std.proofs.Common.{◌≡◌, drop, arith, rules}
use Rattle.model.specs.Content.{one_tag}
use Rattle.model.specs.Layout.{got}
use Rattle.wire.specs.Told.{from}
use Rattle.wire.proofs.Left.{one_less, left_more}
use Rattle.request.specs.Tables.{added}
use Rattle.request.proofs.Tables.{grows_push, added_push}
use Rattle.request.proofs.read.references.read_reference.Goals as goal

pub returns-in_err-tag-clause-read : goal.returns-in_err-tag-clause-read
returns-in_err-tag-clause-read c = search (rules, one_less)

pub loop-number-preserved : goal.loop-number-preserved
loop-number-preserved c =
    let k = c.loop-number.invariant in
    let i = c.loop-number._number in
    let t = c.args.table.now in
    let u = c.push_reserved.new.self in
    let p = c.push_reserved.ensures in
    let held = added t c.loop-number.table in
    let after = c.code-in-loop-number.new.self in
    let r : got c.in_ok-tag.tag after.place (drop after.place after.bytes.now) ≡ from c.loop-number.reader (one_tag i held) = search rules in
    let m = added_push i t c.loop-number.table u c.in_ok-tag.tag k.1 p.items p.len p.capacity in
    let l = left_more one_tag c.from-count.result i held (added t u) c.code.new.self c.loop-number.reader after c.in_ok-tag.tag k.0 (omega arith) m c.code-in-loop-number.ensures.read.same r in
    (l, grows_push i t c.loop-number.table u c.in_ok-tag.tag k.1 p.items p.len p.capacity, omega arith)
