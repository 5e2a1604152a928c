use Rattle.std.proofs.Common.{[], ◌∷◌, ◌++◌, length, sym, ap, ◌∙◌, arith}
use Rattle.expansion.proofs.Fews.{length_upto, upto_push}
use Rattle.expansion.proofs.list.all_below.Goals as goal

pub push-requires : goal.push-requires
push-requires c = omega (arith, ap length c.loop-number.invariant, length_upto 0 c.loop-number.number)

pub loop-number-preserved : goal.loop-number-preserved
loop-number-preserved c = c.push.ensures ∙ ap (λ l. l ++ c.loop-number.number ∷ []) c.loop-number.invariant ∙ sym (upto_push c.loop-number.number)
