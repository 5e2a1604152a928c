use Rattle.std.proofs.Common.{vec_items}
use Rattle.tree.proofs.Gather.{Gathered}
use Rattle.tree.proofs.reach.Reach.gather.Given as goal

-- the nodes below `node` are dealt with
abbrev pub invariant-loop-node : goal.invariant-loop-node
invariant-loop-node l =
    Gathered l.distance (vec_items l.initial.self.nodes) (vec_items l.self.nodes) l.initial.self.seen.on l.self.seen.on l.initial.self.found.on l.self.found.on l.node
