use Rattle.std.proofs.Common.{◌≡◌, suc, ◌<◌, List, length, drop, vec_items, ap, ◌∙◌, arith}
use Rattle.std.proofs.lemmas.List.{take_rest}
use Rattle.model.specs.Tree.{Tree, count, Extent, depth, reached}
use Rattle.tree.specs.declared.reach.Reached.{Reached}
use Rattle.tree.specs.Reached.{extent_of, farthest_of, nodes_reached, levels_at}
use Rattle.tree.proofs.Levels.{nodes_levels, levels_whole, depth_above}
use Rattle.tree.proofs.Reaching.{reaches}
use Rattle.tree.proofs.Walk.{levelled_none, levelled_more, levelled_stop}
use Rattle.tree.proofs.reach.Reach.search.Goals as goal

-- what holds of all levels
nodes_then : (tree : Tree) (x : Extent) (a : _) (rs : List Reached) → rs ≡ levels_at tree a 0 (depth tree x) → nodes_reached rs ≡ reached tree x a
nodes_then tree x a rs e = ap nodes_reached e ∙ nodes_levels tree a 0 (depth tree x)

pub loop-distance-init : goal.loop-distance-init
loop-distance-init g c =
    let t = c.args.tree.now in
    levelled_none (g.T.Tree.meaning t) c.args.asked (g.T.Tree.limits t).few c.count-count.result _ _ _ _ _ _ _ c.count-count.ensures
    c.clear.ensures.nodes c.clear.ensures.seen c.clear.ensures.found c.set.ensures c.gather.ensures.nodes c.gather.ensures.seen c.gather.ensures.found

pub returns-then-len-end : goal.returns-then-len-end
returns-then-len-end g c =
    let t = c.args.tree.now in
    let tree = g.T.Tree.meaning t in
    let x = extent_of c.args.extent in
    let same : length (vec_items c.gather-in-loop-distance.new.self.nodes) ≡ length (vec_items c.loop-distance.self.nodes) = omega (arith, c.gather-in-loop-distance.new.self.nodes.ok.0, c.loop-distance.self.nodes.ok.0) in
    let low : c.loop-distance.distance < farthest_of x (count tree) = omega (arith, c.farthest-distance-end.ensures, ap (farthest_of x) c.count-count.ensures) in
    let after = c.gather-in-loop-distance.new.self in
    let all = levelled_stop tree c.args.asked (g.T.Tree.limits t).few c.loop-distance.invariant c.count-count.result _ _ after.seen.on _ after.found.on c.count-count.ensures (take_rest c.deref.result.now c.loop-distance.start ∙ ap (drop c.loop-distance.start) c.deref.ensures.value) c.spread.ensures c.gather-in-loop-distance.ensures.nodes x same (depth_above tree c.args.asked x _ low) in
    record { nodes = nodes_then tree x c.args.asked _ all; reaches = λ h. reaches tree c.args.asked (g.T.Tree.limits t) x h _ all }

pub loop-distance-preserved : goal.loop-distance-preserved
loop-distance-preserved g c =
    let t = c.args.tree.now in
    let tree = g.T.Tree.meaning t in
    let long : length (vec_items c.loop-distance.self.nodes) ≡ c.len-end.result = omega (arith, c.loop-distance.self.nodes.ok.0) in
    levelled_more tree c.args.asked (g.T.Tree.limits t).few c.loop-distance.invariant c.count-count.result _ _ _ _ _ c.count-count.ensures (take_rest c.deref.result.now c.loop-distance.start ∙ ap (drop c.loop-distance.start) c.deref.ensures.value) c.spread.ensures c.gather-in-loop-distance.ensures.nodes c.len-end.result long c.gather-in-loop-distance.ensures.seen c.gather-in-loop-distance.ensures.found

pub returns : goal.returns
returns g c =
    let t = c.args.tree.now in
    let tree = g.T.Tree.meaning t in
    let x = extent_of c.args.extent in
    let last : suc c.loop-distance.distance ≡ suc (farthest_of x (count tree)) = omega (arith, c.farthest-distance-end.ensures, ap (farthest_of x) c.count-count.ensures) in
    let all = c.loop-distance.invariant.nodes_are ∙ ap (levels_at tree c.args.asked 0) last ∙ levels_whole tree c.args.asked x in
    record { nodes = nodes_then tree x c.args.asked _ all; reaches = λ h. reaches tree c.args.asked (g.T.Tree.limits t) x h _ all }
