use Rattle.std.proofs.Common.{◌≡◌, ◌-◌, ◌+◌, sym, refl, subst, arith}
use Rattle.enquiry.specs.Stepping.{next_told, Stepped}
use Rattle.enquiry.proofs.Stepped.{one_step, none_more}
use Rattle.enquiry.proofs.rows.RowsIterator.next.Goals as goal

pub returns-then-self-eq0-clause-steps : goal.returns-then-self-eq0-clause-steps
returns-then-self-eq0-clause-steps g c =
    let self = c.args.self.now in
    (refl, refl, refl, none_more (g.T.Tree.meaning self.tree.now) (g.P.DecisionPoint.answer self.point.now) self.enquiry.now self.most c.if-self-eq0.true)

pub returns-clause-steps : goal.returns-clause-steps
returns-clause-steps g c = (
  refl,
  refl,
  refl,
  λ standing left.
      let tree = g.T.Tree.meaning c.args.self.now.tree.now in
      let point = g.P.DecisionPoint.answer c.args.self.now.point.now in
      let e = c.args.self.now.enquiry.now in
      let most = c.args.self.now.most in
      let one : most ≡ most - 1 + 1 = omega arith in
      subst (λ o. Stepped tree point e (next_told o) c.step.new.self (most - 1)) (sym c.ok.ensures.value)
      (one_step tree point e c.step.new.self most (most - 1) c.step.result one left (c.step.ensures standing)),
)
