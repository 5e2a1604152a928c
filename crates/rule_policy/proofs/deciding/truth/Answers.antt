use Rattle.std.proofs.Common.{◌+◌, ◌<◌, ◌≤◌, ◌++◌, length, drop, sym, ap, ◌∙◌, arith}
use Rattle.std.proofs.lemmas.List.{drop_all}
use Rattle.model.specs.PointFiles.{in_category}
use Rattle.single.specs.Single.{content, attributes_at}
use Rattle.single.proofs.Places.{nth_none}
use Rattle.single.proofs.Categories.{category_passed, category_entered}
use Rattle.rule_policy.specs.Held.{condition_of}
use Rattle.rule_policy.proofs.Judging.{judge, turn_skip, turn_met, turn_compared}
use Rattle.rule_policy.proofs.deciding.truth.Goals as goal
use Rattle.rule_policy.proofs.deciding.truth.Goals.{then-compares+else-same_bytes, else-compares, then-has_category+else-loop-j-test, else-has_category}

pub loop-j-init : goal.loop-j-init
loop-j-init c =
    let lt : c.elements.i < length (content c.args.request.now) = omega arith in
    sym (ap (judge (condition_of c.args.texts.now c.args.condition) c.elements.compared) (category_entered _ _ _ lt (sym c.if-has_category.ensures))) ∙ c.elements.invariant

pub loop-j-preserved-in_default : goal.loop-j-preserved-in_default
loop-j-preserved-in_default c =
    let past = nth_none (attributes_at (content c.args.request.now) c.elements.i) c.loop-j.j c.in_default.ensures in
    absurd (omega (arith, past, c.loop-j-test.true, c.attributes-j-end.ensures))

pub loop-j-preserved : goal.loop-j-preserved
loop-j-preserved c =
    let k = condition_of c.args.texts.now c.args.condition in
    let rest = in_category c.args.condition.category (drop (c.elements.i + 1) (content c.args.request.now)) in
    let left = drop (c.loop-j.j + 1) (attributes_at (content c.args.request.now) c.elements.i) ++ rest in
    elim c.if-compares.branch [
      | then-compares+else-same_bytes w ↦
          ap (λ b. judge k b left) w.compared-is
          ∙ sym (turn_compared c.args.request.now k c.loop-j.compared c.elements.i c.loop-j.j c.in-Some.attribute _ _ rest c.bytes-bytes.ensures c.name-name.ensures c.in-Some.ensures _ _ w.if-compares.ensures w.value.ensures c.part-wanted.ensures w.if-same_bytes.ensures)
          ∙ c.loop-j.invariant
      | else-compares w ↦
          ap (λ b. judge k b left) w.compared-is
          ∙ sym (turn_skip c.args.request.now k c.loop-j.compared c.elements.i c.loop-j.j c.in-Some.attribute _ _ rest c.bytes-bytes.ensures c.name-name.ensures c.in-Some.ensures w.if-compares.ensures)
          ∙ c.loop-j.invariant
    ]

pub elements-preserved : goal.elements-preserved
elements-preserved c =
    let k = condition_of c.args.texts.now c.args.condition in
    let es = content c.args.request.now in
    let rest = in_category c.args.condition.category (drop (c.elements.i + 1) es) in
    let lt : c.elements.i < length es = omega arith in
    elim c.if-has_category.branch [
      | then-has_category+else-loop-j-test w ↦
          let le : length (attributes_at es c.elements.i) ≤ w.loop-j.j = omega (arith, w.loop-j-test.false, w.attributes-j-end.ensures) in
          ap (λ b. judge k b rest) w.compared-is
          ∙ sym (ap (λ l. judge k w.loop-j.compared (l ++ rest)) (drop_all _ _ le))
          ∙ w.loop-j.invariant
      | else-has_category w ↦
          ap (λ b. judge k b rest) w.compared-is
          ∙ sym (ap (judge k c.elements.compared) (category_passed es _ _ lt (sym w.if-has_category.ensures)))
          ∙ c.elements.invariant
    ]

pub returns-then-same_bytes : goal.returns-then-same_bytes
returns-then-same_bytes c =
    sym (turn_met c.args.request.now (condition_of c.args.texts.now c.args.condition) c.loop-j.compared c.elements.i c.loop-j.j c.in-Some.attribute _ _ _ c.bytes-bytes.ensures c.name-name.ensures c.in-Some.ensures _ _ c.if-compares.ensures c.value.ensures c.part-wanted.ensures c.if-same_bytes.ensures)
    ∙ c.loop-j.invariant
