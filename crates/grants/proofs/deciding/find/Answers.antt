use Rattle.std.proofs.Common.{◌+◌, ◌<◌, ◌≤◌, ◌++◌, length, drop, sym, ap, ◌∙◌, arith}
use Rattle.std.proofs.lemmas.List.{drop_all}
use Rattle.model.specs.PointFiles.{in_category}
use Rattle.single.specs.Single.{content, attributes_at}
use Rattle.single.proofs.Places.{nth_none}
use Rattle.single.proofs.Categories.{category_passed, category_entered}
use Rattle.grants.specs.Found.{found_in}
use Rattle.grants.proofs.Granting.{gather, values_left, find_skip, find_taken, find_again}
use Rattle.grants.proofs.deciding.find.Goals as goal
use Rattle.grants.proofs.deciding.find.Goals.{then-attribute-id+in_default-found, else-attribute-id, then-has_category+else-loop-j-test, else-has_category}

pub loop-j-init : goal.loop-j-init
loop-j-init c =
    let lt : c.loop-i.i < length (content c.args.request.now) = omega arith in
    sym (ap (λ l. gather (found_in c.args.request.now c.loop-i.found) (values_left c.args.id l)) (category_entered _ _ _ lt (sym c.if-has_category.ensures))) ∙ c.loop-i.invariant

pub loop-j-preserved-in_default : goal.loop-j-preserved-in_default
loop-j-preserved-in_default c =
    let past = nth_none (attributes_at (content c.args.request.now) c.loop-i.i) c.loop-j.j c.in_default.ensures in
    absurd (omega (arith, past, c.loop-j-test.true, c.attributes-j-end.ensures))

pub loop-j-preserved : goal.loop-j-preserved
loop-j-preserved c =
    let s = c.args.request.now in
    let rest = in_category c.args.category (drop (c.loop-i.i + 1) (content s)) in
    let left = drop (c.loop-j.j + 1) (attributes_at (content s) c.loop-i.i) ++ rest in
    elim c.if-attribute-id.branch [
      | then-attribute-id+in_default-found w ↦
          ap (λ f. gather (found_in s f) (values_left c.args.id left)) (w.found-is ∙ w.and-found.ensures)
          ∙ find_taken s _ c.loop-i.i c.loop-j.j c.in-Some.attribute rest c.in-Some.ensures _ _ c.loop-j.invariant w.if-attribute-id.true
      | else-attribute-id w ↦
          ap (λ f. gather (found_in s f) (values_left c.args.id left)) w.found-is
          ∙ find_skip s _ c.loop-i.i c.loop-j.j c.in-Some.attribute rest c.in-Some.ensures _ _ c.loop-j.invariant w.if-attribute-id.false
    ]

pub returns-in-Several : goal.returns-in-Several
returns-in-Several c =
    let s = c.args.request.now in
    let rest = in_category c.args.category (drop (c.loop-i.i + 1) (content s)) in
    find_again s _ c.loop-i.i c.loop-j.j c.in-Some.attribute rest c.in-Some.ensures _ _ c.loop-j.invariant _ c.and-found.ensures c.in-Several.is c.if-attribute-id.true

pub loop-i-preserved : goal.loop-i-preserved
loop-i-preserved c =
    let s = c.args.request.now in
    let es = content s in
    let rest = in_category c.args.category (drop (c.loop-i.i + 1) es) in
    let lt : c.loop-i.i < length es = omega arith in
    elim c.if-has_category.branch [
      | then-has_category+else-loop-j-test w ↦
          let le : length (attributes_at es c.loop-i.i) ≤ w.loop-j.j = omega (arith, w.loop-j-test.false, w.attributes-j-end.ensures) in
          ap (λ f. gather (found_in s f) (values_left c.args.id rest)) w.found-is
          ∙ sym (ap (λ l. gather (found_in s w.loop-j.found) (values_left c.args.id (l ++ rest))) (drop_all _ _ le))
          ∙ w.loop-j.invariant
      | else-has_category w ↦
          ap (λ f. gather (found_in s f) (values_left c.args.id rest)) w.found-is
          ∙ sym (ap (λ l. gather (found_in s c.loop-i.found) (values_left c.args.id l)) (category_passed es _ _ lt (sym w.if-has_category.ensures)))
          ∙ c.loop-i.invariant
    ]
