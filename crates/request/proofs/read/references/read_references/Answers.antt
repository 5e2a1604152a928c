use Rattle.std.proofs.Common.{◌≡◌, drop, arith, rules}
use Rattle.model.specs.Content.{one_reference}
use Rattle.model.specs.Layout.{got}
use Rattle.wire.specs.Told.{from}
use Rattle.wire.proofs.Left.{one_less, left_more}
use Rattle.request.specs.Held.{tags_at, references_in}
use Rattle.request.specs.Tables.{whole_span}
use Rattle.request.proofs.Tables.{references_push, reach_push, longest_push}
use Rattle.request.proofs.read.references.read_references.Goals as goal

pub returns-in_err-span-clause-read : goal.returns-in_err-span-clause-read
returns-in_err-span-clause-read c = search (rules, one_less)

pub loop-number-preserved : goal.loop-number-preserved
loop-number-preserved c =
    let k = c.loop-number.invariant in
    let n = c.loop-number.number-counter in
    let o = c.read_reference.ensures in
    let i = c.push_reserved.ensures.items in
    let x = c.in_ok-span.span in
    let t = c.loop-number.table in
    let u = c.read_reference.new.table in
    let after = c.read_reference.new.reader in
    let held = references_in c.loop-number.list t in
    let r : got (tags_at u x) after.place (drop after.place after.bytes.now) ≡ from c.loop-number.reader (one_reference n held) = search rules in
    let m = references_push 16 c.loop-number.list c.push_reserved.new.self t u x o.grows k.3 i in
    let l = left_more one_reference c.from-count.result n held (references_in c.push_reserved.new.self u) c.code.new.self c.loop-number.reader after (tags_at u x) k.0 (omega arith) m o.read.same r in
    let e = reach_push whole_span c.loop-number.list c.push_reserved.new.self t.len u.len x k.3 o.grows.low (search rules) i in
    let w = longest_push c.loop-number.list c.push_reserved.new.self x k.6 (search rules) i in
    (l, omega arith, omega arith, e, search rules, search rules, w)
