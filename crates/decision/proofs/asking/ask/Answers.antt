use Rattle.std.proofs.Common.{sym, ap, ◌∙◌, subst}
use Rattle.model.specs.Points.{AnswerFits}
use Rattle.single.specs.Single.{content}
use Rattle.decision.specs.Answered.{asked}
use Rattle.decision.proofs.asking.ask.Goals as goal

pub returns-in-Some : goal.returns-in-Some
returns-in-Some g c =
    let point = c.args.point.now in
    let put = c.at.ensures.content ∙ ap (asked c.args.request.now) (sym c.in-Some.is) in
    let e = c.decide.ensures ∙ ap (g.P.DecisionPoint.answer point) put in
    record { answer = e; fits = subst AnswerFits (sym c.decide.ensures) (g.P.DecisionPoint.fits point (content c.at.result)) }
