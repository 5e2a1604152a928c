use Rattle.std.proofs.Common.{◌<◌, ◌≤◌, length, sym, arith, rules}
use Rattle.single.specs.Single.{content}
use Rattle.single.proofs.Laying.{laid_more, laid_as}
use Rattle.single.proofs.Spelling.{elements_push, whole_spelled, bytes_few}
use Rattle.single.proofs.Viewing.{content_length}
use Rattle.single.proofs.single.SingleRequest.put_all.Goals as goal

pub loop-element-preserved : goal.loop-element-preserved
loop-element-preserved c =
    let in' : c.loop-element.element < length (content c.args.self.now) = omega arith in
    laid_as (elements_push (content c.args.self.now) c.loop-element.element in') (laid_more c.loop-element.invariant c.put_element.ensures)

pub returns : goal.returns
returns c =
    let s = c.args.self.now in
    let es = content s in
    let all : length es ≤ c.loop-element.element = omega arith in
    let whole = laid_as (whole_spelled es s.count c.loop-element.element (sym (content_length s)) all) (laid_more c.put.ensures (laid_more c.put-2.ensures c.loop-element.invariant)) in
    let few = bytes_few es s.count (sym (content_length s)) s.most in
    let over = whole.over in
    let same = whole.same in
    record { over = search rules; next = omega (arith, whole.next) }
