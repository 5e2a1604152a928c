use Rattle.std.proofs.Common.{vec_items}
use Rattle.tree.proofs.Walk.{Levelled}
use Rattle.tree.proofs.reach.Reach.search.Given as goal

-- the levels to `distance` are reached
abbrev pub invariant-loop-distance : goal.invariant-loop-distance
invariant-loop-distance g l =
    Levelled (g.T.Tree.meaning l.tree) l.asked (vec_items l.self.nodes) l.self.seen.on l.self.found.on l.start l.distance
