use Rattle.std.proofs.Common.{◌+◌, ◌<◌, vec_items, sym, subst, arith}
use Rattle.std.proofs.lemmas.Bool.{and_left, and_right, not_from_true}
use Rattle.tree.specs.declared.reach.Reach.{Reach}
use Rattle.tree.proofs.Gather.{Gathered, room_left, gathered_yes, gathered_no}
use Rattle.tree.proofs.reach.Reach.gather.Goals as goal
use Rattle.tree.proofs.reach.Reach.gather.Goals.{then-is_set+then-not-is_set, else-is_set, else-is_set-via-then-is_set+else-not-is_set, else-is_set-via-else-is_set}

pub push_reserved-requires : goal.push_reserved-requires
push_reserved-requires c =
    let low : c.loop-node.node < 1024 = omega arith in
    omega (arith, room_left c.loop-node.self.seen.on c.loop-node.node c.loop-node.self.seen.full low (sym c.if-not-is_set.ensures))

pub loop-node-preserved : goal.loop-node-preserved
loop-node-preserved c =
    let r = c.loop-node.invariant in
    let low : c.loop-node.node < 1024 = omega arith in
    let P : Reach → Type 0 = λ s. Gathered c.args.distance (vec_items c.args.self.now.nodes) (vec_items s.nodes) c.args.self.now.seen.on s.seen.on c.args.self.now.found.on s.found.on (c.loop-node.node + 1) in
    elim c.if-is_set.branch [
      | then-is_set+then-not-is_set w ↦ subst P (sym w.self-is)
          (gathered_yes r low _ _ c.loop-node.self.seen.full (sym w.if-is_set.ensures) (sym w.if-not-is_set.ensures) w.push_reserved.ensures.items w.set.ensures)
      | else-is_set w ↦ subst P (sym w.self-is) (gathered_no r low
          (elim w.else-is_set.branch [
            | else-is_set-via-then-is_set+else-not-is_set w' ↦ and_right _ _ (not_from_true _ (sym w'.if-not-is_set.ensures))
            | else-is_set-via-else-is_set w' ↦ and_left _ _ (sym w'.if-is_set.ensures)
          ]))
    ]
