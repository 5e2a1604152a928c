use Rattle.std.proofs.Common.{◌-◌}
use Rattle.model.specs.Tree.{count}
use Rattle.tree.specs.Reached.{Marked}
use Rattle.tree.proofs.Firsts.{below}
use Rattle.tree.proofs.reach.steps.mark_children.Given as goal

-- the children below `from` are marked
abbrev pub invariant-loop-child : goal.invariant-loop-child
invariant-loop-child g l =
    Marked 1024 l.initial.found.on l.found.on (below ((g.T.Tree.meaning l.tree).linked l.node) l.from)

abbrev pub decreases-loop-child : goal.decreases-loop-child
decreases-loop-child g l = count (g.T.Tree.meaning l.tree) - l.from
