use Rattle.std.proofs.Common.{◌≡◌, [], ◌∷◌, ◌++◌, drop, vec_items, sym, ap, ◌∙◌, subst, arith, rules}
use Rattle.std.proofs.lemmas.List.{map_push}
use Rattle.model.specs.Layout.{got}
use Rattle.model.specs.PointFiles.{one_line}
use Rattle.wire.specs.Told.{from}
use Rattle.wire.proofs.Left.{one_less, left_more}
use Rattle.grants.specs.Held.{line_of, lines_at}
use Rattle.grants.specs.Order.{Indexed}
use Rattle.grants.proofs.lines.Lines.read_lines.Goals as goal

pub returns-in_err-line-clause-read : goal.returns-in_err-line-clause-read
returns-in_err-line-clause-read c = search (rules, one_less)

pub loop-number-preserved : goal.loop-number-preserved
loop-number-preserved c =
    let k = c.loop-number.invariant in
    let n = c.loop-number.number-counter in
    let bytes = c.wide.new.self.bytes.now in
    let list = vec_items c.loop-number.self.lines in
    let x = c.in_ok-line.line in
    let one = line_of bytes x in
    let held = lines_at bytes list in
    let after = c.read_line-read.new.reader in
    let r : got one after.place (drop after.place after.bytes.now) ≡ from c.loop-number.reader (one_line n held) = search rules in
    let m = ap (lines_at bytes) c.push_reserved.ensures.items ∙ map_push (line_of bytes) list x in
    let l = left_more one_line c.from-count.result n held (lines_at bytes (vec_items c.push_reserved.new.self)) c.wide.new.self c.loop-number.reader after one k.0 (omega arith) m c.read_line-read.ensures.same r in
    let order = vec_items c.put_in_order.new.order in
    let s = subst (λ b. Indexed (lines_at b c.as_slice.result.now ++ line_of b x ∷ []) order) (ap (λ b. b.now) c.bytes-bytes.ensures) c.put_in_order.ensures.indexed in
    let t = subst (λ ls. Indexed (lines_at bytes ls ++ one ∷ []) order) c.as_slice.ensures.value s in
    (l, subst (λ ls. Indexed ls order) (sym m) t, omega arith, omega (arith, c.put_in_order.ensures.longer, k.3))
