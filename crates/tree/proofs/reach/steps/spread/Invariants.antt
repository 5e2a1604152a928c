use Rattle.tree.proofs.Walk.{Spreading}
use Rattle.tree.proofs.reach.steps.spread.Given as goal

abbrev pub invariant-loop-reached : goal.invariant-loop-reached
invariant-loop-reached g l = Spreading (g.T.Tree.meaning l.tree).linked l.level l.initial.found.on l.found.on l.reached-index
