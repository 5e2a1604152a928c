use denote.Enum.Bare.{sameb}
use Rattle.std.proofs.Common.{◌≡◌, ◌+◌, ◌≤◌, ◌&&◌, length, Some, None, Err, sym, refl, ap, ◌∙◌, subst, arith, rules}
use Rattle.model.specs.declared.call.CallRefusal.TheVariants.{Ended}
use Rattle.model.specs.contracts.decision.Decision.{the_type}
use Rattle.model.specs.declared.decision.Decision.{Decision}
use Rattle.model.specs.declared.decision.Decision.TheVariants.{Permit, Deny, Indeterminate, NotApplicable}
use Rattle.model.specs.Law as law
use Rattle.model.specs.Rows.{spots}
use Rattle.cursor.specs.Ahead.{Tells}
use Rattle.cursor.specs.Spots.{spot_of}
use Rattle.enquiry.specs.Calls.{content, Answers, step_told}
use Rattle.enquiry.proofs.Moves.{within}
use Rattle.enquiry.proofs.Sources.{few_references, few_rows}
use Rattle.enquiry.proofs.Standing.{next_is, step_ended, step_on}
use Rattle.enquiry.proofs.enquiry.Enquiry.step.Goals as goal

permits : (d : Decision) → sameb the_type d Permit ≡ law.is_permitting d
permits Permit = refl
permits Deny = refl
permits Indeterminate = refl
permits NotApplicable = refl

pub returns-in_err-spot : goal.returns-in_err-spot
returns-in_err-spot g c = λ standing.
    let tree = g.T.Tree.meaning c.args.tree.now in
    let point = g.P.DecisionPoint.answer c.args.point.now in
    let self = c.args.self.now in
    let tells = subst (Tells tree (content self) self.cursor) c.in_err-spot.ensures.ok_part (c.spot.ensures tree (content self) standing.over) in
    let ended : c.from_residual.result ≡ Err Ended = search rules in
    subst (λ r. Answers tree point self law.step (step_told r) self) (sym ended)
    (step_ended tree point self standing (next_is tree point self standing None tells.next))

pub returns : goal.returns
returns g c = λ standing.
    let tree = g.T.Tree.meaning c.args.tree.now in
    let point = g.P.DecisionPoint.answer c.args.point.now in
    let limits = g.T.Tree.limits c.args.tree.now in
    let self = c.args.self.now in
    let q = content self in
    let tells = subst (Tells tree q self.cursor) c.in_ok-spot.ensures.ok_part (c.spot.ensures tree q standing.over) in
    let s = spot_of tree q.elements c.in_ok-spot.spot in
    let at = next_is tree point self standing (Some s) tells.next in
    let here = within q tree point self.handed s at in
    let few : length (spots q tree) ≤ 5308416 = few_rows q tree point limits standing.source in
    let one_more : c.saturating_add-self.result ≡ self.handed + 1 = omega (arith, here, few) in
    step_on tree point self standing s c.row_at-row.result _ at (c.row_at-row.ensures tells.names) refl
    (c.advance.ensures (few_references q standing.source) standing.over) one_more
    (ap (λ b. self.permitted && b) (c.eq.ensures ∙ permits c.row_at-row.result.decision))
