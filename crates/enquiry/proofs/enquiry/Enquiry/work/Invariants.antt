use Rattle.std.proofs.Common.{◌≡◌, length, take, vec_items}
use Rattle.enquiry.specs.Worked.{calls_of, replies_of, Worked}
use Rattle.enquiry.proofs.enquiry.Enquiry.work.Given as goal

abbrev pub invariant-loop-call : goal.invariant-loop-call
invariant-loop-call g l =
    (length (vec_items l.replies) ≡ l.call-index)
    × Worked (g.T.Tree.meaning l.tree) (g.P.DecisionPoint.answer l.point) l.initial.self (calls_of (take l.call-index l.calls)) (replies_of (vec_items l.replies)) l.self
