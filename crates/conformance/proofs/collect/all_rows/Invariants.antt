use Rattle.std.proofs.Common.{◌-◌, length, vec_items}
use Rattle.model.specs.Content.{read_request}
use Rattle.conformance.specs.Collected.{rows_of}
use Rattle.conformance.proofs.Since.{Since, rows_due}
use Rattle.conformance.proofs.collect.all_rows.Given as goal

abbrev pub invariant-loop-row : goal.invariant-loop-row
invariant-loop-row g l =
    Since (g.T.Tree.meaning l.tree) (g.P.DecisionPoint.answer l.point) (read_request l.bytes) (rows_of (vec_items l.rows)) l.enquiry

abbrev pub decreases-loop-row : goal.decreases-loop-row
decreases-loop-row g l = rows_due (g.T.Tree.meaning l.tree) (read_request l.bytes) - length (rows_of (vec_items l.rows))
