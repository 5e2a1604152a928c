use Rattle.std.proofs.Common.{◌≡◌, drop, arith, rules}
use Rattle.model.specs.Content.{one_element}
use Rattle.model.specs.Layout.{got}
use Rattle.wire.specs.Told.{from}
use Rattle.wire.proofs.Left.{one_less, left_more}
use Rattle.request.specs.Held.{element_at, elements_in}
use Rattle.request.specs.Tables.{element_span}
use Rattle.request.proofs.Tables.{elements_push, reach_push, tags_same}
use Rattle.request.proofs.read.elements.read_elements.Goals as goal

pub returns-in_err-element-clause-read : goal.returns-in_err-element-clause-read
returns-in_err-element-clause-read c =
    let v = c.as_slice.ensures.value in
    let t = tags_same c.code.new.self.bytes.now c.loop-number.table.items c.loop-number.list.items in
    search (rules, one_less, v, t)

pub loop-number-preserved : goal.loop-number-preserved
loop-number-preserved c =
    let k = c.loop-number.invariant in
    let n = c.loop-number.number-counter in
    let bytes = c.code.new.self.bytes.now in
    let o = c.read_element-read.ensures in
    let i = c.push_reserved.ensures.items in
    let x = c.in_ok-element.element in
    let t = c.loop-number.table in
    let u = c.read_element-read.new.table in
    let after = c.read_element-read.new.reader in
    let v = c.as_slice.ensures.value in
    let s = tags_same bytes t.items c.loop-number.list.items in
    let held = elements_in bytes c.loop-number.list t in
    let one = element_at u bytes x in
    let r : got one after.place (drop after.place after.bytes.now) ≡ from c.loop-number.reader (one_element n held) = search (rules, v, s) in
    let m = elements_push bytes 8 c.loop-number.list c.push_reserved.new.self t u x o.grows k.3 i in
    let l = left_more one_element c.from-count.result n held (elements_in bytes c.push_reserved.new.self u) c.code.new.self c.loop-number.reader after one k.0 (omega arith) m o.read.same r in
    let e = reach_push element_span c.loop-number.list c.push_reserved.new.self t.len u.len x k.3 o.grows.low (search rules) i in
    (l, omega arith, omega arith, e, search rules, search rules)
