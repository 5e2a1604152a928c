use Rattle.std.proofs.Common.{◌≡◌, ◌+◌, [], ◌∷◌, ◌++◌, length, get_or, take, is_ok, vec_items, sym, ap, ◌∙◌, subst, arith}
use Rattle.std.proofs.ResultArms.{chosen}
use Rattle.std.proofs.lemmas.List.{take_more, take_all, length_push, length-map, length-take-le, map-append}
use Rattle.enquiry.specs.declared.work.Call.TheVariants.{Step}
use Rattle.enquiry.specs.Worked.{call_of, answer_of, calls_of, replies_of, Worked}
use Rattle.enquiry.proofs.Working.{nothing_worked, one_more_worked}
use Rattle.enquiry.proofs.enquiry.Enquiry.work.Goals as goal

pub loop-call-init : goal.loop-call-init
loop-call-init g c =
    let tree = g.T.Tree.meaning c.args.tree.now in
    let point = g.P.DecisionPoint.answer c.args.point.now in
    let self = c.args.self.now in (
      ap length c.new-replies.ensures.items,
      subst (λ l. Worked tree point self [] (replies_of l) self) (sym c.new-replies.ensures.items) (nothing_worked tree point self),
    )

pub loop-call-preserved : goal.loop-call-preserved
loop-call-preserved g c =
    let tree = g.T.Tree.meaning c.args.tree.now in
    let point = g.P.DecisionPoint.answer c.args.point.now in
    let self = c.args.self.now in
    let i = c.loop-call.call-index in
    let calls = c.args.calls.now in
    let replies = vec_items c.loop-call.replies in
    let reply = c.in_ok-reply.reply in
    let pushed : vec_items c.push.new.self ≡ replies ++ reply ∷ [] =
    chosen _ _ _ _ c.push.ensures.items (ap is_ok c.in_ok-push.was) in
    let more = take_more calls i Step c.loop-call-test.true in
    let long : length (calls_of (take i calls)) ≡ length (replies_of replies) =
    omega (arith, length-map (take i calls) call_of, length-map replies answer_of, length-take-le i calls (omega arith), c.loop-call.invariant.0) in
    let next =
    one_more_worked tree point self (calls_of (take i calls)) (replies_of replies) c.loop-call.self c.answer.new.self (call_of (get_or calls i Step)) (answer_of reply)
    long c.loop-call.invariant.1 c.in_ok-reply.ensures in (
      ap length pushed ∙ length_push replies reply ∙ ap (λ n. n + 1) c.loop-call.invariant.0,
      subst (λ l. Worked tree point self (calls_of (take (i + 1) calls)) (replies_of l) c.answer.new.self) (sym pushed)
          (subst (λ rs. Worked tree point self (calls_of (take (i + 1) calls)) rs c.answer.new.self) (sym (map-append answer_of replies (reply ∷ [])))
          (subst (λ cs. Worked tree point self cs (replies_of replies ++ answer_of reply ∷ []) c.answer.new.self)
          (sym (ap calls_of more ∙ map-append call_of (take i calls) (get_or calls i Step ∷ []))) next)),
    )

pub returns : goal.returns
returns g c =
    let tree = g.T.Tree.meaning c.args.tree.now in
    let point = g.P.DecisionPoint.answer c.args.point.now in
    subst (λ l. Worked tree point c.args.self.now (calls_of l) (replies_of (vec_items c.loop-call.replies)) c.loop-call.self)
    (take_all c.loop-call.call-index c.args.calls.now c.loop-call-test.false) c.loop-call.invariant.1
