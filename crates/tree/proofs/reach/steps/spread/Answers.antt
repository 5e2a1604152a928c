use Rattle.tree.proofs.Walk.{spreading_more, spreading_all}
use Rattle.tree.proofs.reach.steps.spread.Goals as goal

pub loop-reached-preserved : goal.loop-reached-preserved
loop-reached-preserved g c = spreading_more (g.T.Tree.meaning c.args.tree.now).linked c.args.level.now c.args.found.now.on _ c.loop-reached.reached-index c.loop-reached.invariant _ _ c.loop-reached-test.true c.mark_children.ensures

pub returns : goal.returns
returns g c = spreading_all (g.T.Tree.meaning c.args.tree.now).linked c.args.level.now c.args.found.now.on _ c.loop-reached.reached-index c.loop-reached.invariant c.loop-reached-test.false
