use Rattle.std.proofs.Common.{false, ◌||◌, get_or, ap, ◌∙◌, arith}
use Rattle.tree.proofs.Firsts.{child_is, child_below, child_not, marked_more}
use Rattle.tree.proofs.reach.steps.mark_children.Goals as goal

pub overflow_add-from : goal.overflow_add-from
overflow_add-from g c =
    let t = g.T.Tree in
    let least = child_below (t.meaning c.args.tree.now) c.args.node _ _ c.in-Some.ensures in
    record { fits = omega (arith, least, (t.limits c.args.tree.now).few) }

pub loop-child-smaller : goal.loop-child-smaller
loop-child-smaller g c =
    let tree = g.T.Tree.meaning c.args.tree.now in
    let least = child_below tree c.args.node _ _ c.in-Some.ensures in
    let r = child_is tree c.args.node _ _ c.in-Some.ensures in
    omega (arith, least, r.low)

pub loop-child-preserved : goal.loop-child-preserved
loop-child-preserved g c =
    let t = g.T.Tree in
    let tree = c.args.tree.now in
    λ k h. ap (λ l. get_or l k false) c.set.ensures ∙ marked_more (t.meaning tree) c.args.node c.loop-child.from _ _ _ c.loop-child.found.full (t.limits tree).few c.in-Some.ensures c.loop-child.invariant k h

pub returns : goal.returns
returns g c =
    let t = g.T.Tree in
    let tree = c.args.tree.now in
    λ k h. c.loop-child.invariant k h ∙ ap (λ x. get_or c.args.found.now.on k false || x) (child_not (t.meaning tree) c.args.node c.loop-child.from c.in_default.ensures (t.limits tree) k)
