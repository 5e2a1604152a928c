use Rattle.std.proofs.Common.{◌≡◌, sym, subst, refl, rules}
use Rattle.std.proofs.lemmas.Result.{IfOk-weaker}
use Rattle.model.specs.Law as law
use Rattle.model.specs.Points.{Point}
use Rattle.model.specs.Tree.{Tree}
use Rattle.enquiry.specs.declared.enquiry.Enquiry.{Enquiry}
use Rattle.enquiry.specs.declared.work.Call.{Call}
use Rattle.enquiry.specs.declared.work.Call.TheVariants.{Show}
use Rattle.enquiry.specs.Calls.{Works, Answers, step_told, verdict_told}
use Rattle.enquiry.specs.Worked.{call_of, answer_of}
use Rattle.enquiry.proofs.enquiry.Enquiry.answer.Goals as goal

-- the call that was made is this one, and its answer is told so
this_call : (tree : Tree) (point : Point) (e : Enquiry) (e' : Enquiry) (call made : Call) (a told : law.Reply) → call ≡ made → told ≡ a → Answers tree point e (call_of made) a e'
    → Answers tree point e (call_of call) told e'
this_call tree point e e' call made a told is same answers = subst (λ x. Answers tree point e (call_of call) x e') (sym same) (subst (λ x. Answers tree point e (call_of x) a e') (sym is) answers)

pub returns-in-Step : goal.returns-in-Step
returns-in-Step g c = λ standing.
    let told : answer_of c.map.result ≡ step_told c.step.result = search rules in
    this_call _ _ _ _ _ _ _ _ c.in-Step.is told (c.step.ensures standing)

pub returns-in-Show : goal.returns-in-Show
returns-in-Show g c =
    let tree = g.T.Tree.meaning c.args.tree.now in
    let point = g.P.DecisionPoint.answer c.args.point.now in
    let self = c.args.self.now in
    IfOk-weaker c.show_zeros.result
    (λ answer. (p : Point) → Works tree p self (call_of (Show c.in-Show.size)) (answer_of answer) self)
    (λ answer. Works tree point self (call_of c.args.call) (answer_of answer) self)
    (λ answer works standing. this_call tree point self self c.args.call (Show c.in-Show.size) _ _ c.in-Show.is refl (works point standing))
    c.show_zeros.ensures

pub returns-in-Rewind : goal.returns-in-Rewind
returns-in-Rewind g c = λ standing. this_call _ _ _ _ _ _ _ _ c.in-Rewind.is refl (c.rewind.ensures _ standing)

pub returns-in-Verdict : goal.returns-in-Verdict
returns-in-Verdict g c = λ standing.
    let told : answer_of c.map-in-Verdict.result ≡ verdict_told c.verdict.result = search rules in
    this_call _ _ _ _ _ _ _ _ c.in-Verdict.is told (c.verdict.ensures _ _ standing)
