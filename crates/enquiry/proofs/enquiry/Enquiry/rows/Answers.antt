use Rattle.std.proofs.Common.{◌≤◌, length, arith}
use Rattle.model.specs.Rows.{spots}
use Rattle.enquiry.specs.Calls.{content}
use Rattle.enquiry.proofs.Sources.{few_rows}
use Rattle.enquiry.proofs.enquiry.Enquiry.rows.Goals as goal

pub returns-clause-most : goal.returns-clause-most
returns-clause-most g c = λ standing.
    let tree = g.T.Tree.meaning c.args.tree.now in
    let point = g.P.DecisionPoint.answer c.args.point.now in
    let self = c.args.self.now in
    let few : length (spots (content self) tree) ≤ 5308416 = few_rows (content self) tree point (g.T.Tree.limits c.args.tree.now) standing.source in
    omega (arith, few)
