use Rattle.std.proofs.Common.{◌≡◌, ◌∷◌, length, take, sym, ap, ◌∙◌, ap₂, arith}
use Rattle.std.proofs.lemmas.List.{take_more, take_all, length-take-le}
use Rattle.wire.proofs.Clipped.{take_clipped}
use Rattle.single.specs.Written.{cut}
use Rattle.single.proofs.Laying.{laid_more, laid_as}
use Rattle.single.proofs.writer.Writer.put_text.Goals as goal

pub loop-byte-preserved : goal.loop-byte-preserved
loop-byte-preserved c = laid_as (sym (take_more (take c.min-count.result c.args.text.now) c.loop-byte.byte-index 0 c.loop-byte-test.true)) (laid_more c.loop-byte.invariant c.put-in-loop-byte.ensures)

pub returns : goal.returns
returns c =
    let t = c.args.text.now in
    let m = c.min-count.result in
    let clipped : take m t ≡ cut t = take_clipped t 255 m (omega arith) in
    let long : m ≡ length (cut t) = sym (length-take-le m t (omega arith)) ∙ ap length clipped in
    laid_as (ap₂ (λ n l. n ∷ l) long (take_all c.loop-byte.byte-index (take m t) c.loop-byte-test.false ∙ clipped)) (laid_more c.put.ensures c.loop-byte.invariant)
