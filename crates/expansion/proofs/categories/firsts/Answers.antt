use Rattle.std.proofs.Common.{◌+◌, ◌++◌, length, get_or, drop, sym, ap, ◌∙◌, arith}
use Rattle.std.proofs.lemmas.List.{length_push}
use Rattle.expansion.specs.Few.{held}
use Rattle.expansion.specs.Categories.{firsts}
use Rattle.expansion.proofs.Codes.{firsts_skip, firsts_add}
use Rattle.expansion.proofs.categories.firsts.Goals as goal
use Rattle.expansion.proofs.categories.firsts.Goals.{then-not-contains, else-not-contains}

pub loop-code-preserved : goal.loop-code-preserved
loop-code-preserved c =
    let xs = c.as_slice-code-items.result.now in
    let i = c.loop-code.code-index in
    let code = get_or xs i 0 in
    let seen = held c.loop-code.seen in
    let e = sym c.contains.ensures in
    elim c.if-not-contains.branch [
      | then-not-contains w ↦ (
          let added = ap held w.seen-is ∙ w.push.ensures in (
            sym (firsts_add seen xs i (held c.if-not-contains.seen) c.loop-code-test.true (e ∙ w.if-not-contains.true) added) ∙ c.loop-code.invariant.0,
            omega (arith, ap length added, length_push seen code, c.loop-code.invariant.1),
          ))
      | else-not-contains w ↦ (
        ap (λ f. held f ++ firsts (held f) (drop (i + 1) xs)) w.seen-is ∙ sym (firsts_skip seen xs i c.loop-code-test.true (e ∙ w.if-not-contains.false)) ∙ c.loop-code.invariant.0,
        omega (arith, ap (λ f. length (held f)) w.seen-is, c.loop-code.invariant.1),
      )
    ]
