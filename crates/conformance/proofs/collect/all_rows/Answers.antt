use Rattle.std.proofs.Common.{◌≡◌, List, [], ◌∷◌, ◌++◌, length, is_ok, vec_items, sym, ap, ◌∙◌, subst, arith}
use Rattle.std.proofs.ResultArms.{chosen}
use Rattle.std.proofs.lemmas.List.{length_push, map-append}
use Rattle.model.specs.Content.{read_request}
use Rattle.enquiry.specs.declared.row.Row.{Row}
use Rattle.enquiry.specs.Calls.{content}
use Rattle.enquiry.specs.Rows.{row_of}
use Rattle.conformance.specs.Collected.{rows_of}
use Rattle.conformance.proofs.Since.{Since, opened, one_more, fewer, done}
use Rattle.conformance.proofs.collect.all_rows.Goals as goal

-- what a push left among the rows
pushed : (old new : List Row) (row : Row) → new ≡ old ++ row ∷ [] → rows_of new ≡ rows_of old ++ row_of row ∷ []
pushed old new row is = ap rows_of is ∙ map-append row_of old (row ∷ [])

pub loop-row-init : goal.loop-row-init
loop-row-init g c =
    let tree = g.T.Tree.meaning c.args.tree.now in
    let point = g.P.DecisionPoint.answer c.args.point.now in
    let reading = read_request c.args.bytes.now in
    subst (λ l. Since tree point reading (rows_of l) c.open.new.self) (sym c.new-rows.ensures.items)
    (opened tree point reading (content c.open.new.self) c.open.new.self c.in_ok-open.ensures.answer c.in_ok-open.ensures.law)

pub loop-row-preserved : goal.loop-row-preserved
loop-row-preserved g c =
    let tree = g.T.Tree.meaning c.args.tree.now in
    let point = g.P.DecisionPoint.answer c.args.point.now in
    let reading = read_request c.args.bytes.now in
    let rows = vec_items c.loop-row.rows in
    let is = pushed rows (vec_items c.push.new.self) c.in-Ok.row (chosen _ _ _ _ c.push.ensures.items (ap is_ok c.in_ok-push.was)) in
    subst (λ l. Since tree point reading l c.step.new.self) (sym is)
    (one_more tree point reading (rows_of rows) c.loop-row.enquiry c.step.new.self (row_of c.in-Ok.row) c.loop-row.invariant c.in-Ok.ensures)

pub loop-row-smaller : goal.loop-row-smaller
loop-row-smaller g c =
    let tree = g.T.Tree.meaning c.args.tree.now in
    let point = g.P.DecisionPoint.answer c.args.point.now in
    let reading = read_request c.args.bytes.now in
    let rows = vec_items c.loop-row.rows in
    let is = pushed rows (vec_items c.push.new.self) c.in-Ok.row (chosen _ _ _ _ c.push.ensures.items (ap is_ok c.in_ok-push.was)) in
    let left = fewer tree point reading (rows_of rows) c.loop-row.enquiry c.step.new.self (row_of c.in-Ok.row) c.loop-row.invariant c.in-Ok.ensures in
    let longer = ap length is ∙ length_push (rows_of rows) (row_of c.in-Ok.row) in
    omega (arith, left, longer)

pub returns : goal.returns
returns g c =
    let tree = g.T.Tree.meaning c.args.tree.now in
    let point = g.P.DecisionPoint.answer c.args.point.now in
    let reading = read_request c.args.bytes.now in
    done tree point reading (rows_of (vec_items c.loop-row.rows)) c.loop-row.enquiry c.step.new.self c.in_default.field-0 c.loop-row.invariant c.in_default.ensures
