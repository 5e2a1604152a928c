use Rattle.std.proofs.Common.{◌≤◌, length, ap, arith}
use Rattle.expansion.specs.Few.{held}
use Rattle.expansion.proofs.Fews.{held_few, made_room, made_more, made_all}
use Rattle.expansion.proofs.few.Few.map.Goals as goal

pub push-requires : goal.push-requires
push-requires g c =
    let l : length c.as_slice-number-items.result.now ≤ 16 = omega (arith, ap length c.as_slice-number-items.ensures, held_few c.args.self.now) in
    made_room _ _ _ _ c.loop-number.invariant.1 c.loop-number-test.true l

pub loop-number-preserved : goal.loop-number-preserved
loop-number-preserved g c = (c.loop-number.invariant.0, made_more _ _ _ _ c.loop-number.invariant.1 c.f.result (held c.push.new.self) c.loop-number-test.true c.f.ensures c.push.ensures)

pub returns : goal.returns
returns g c = made_all _ _ _ _ c.loop-number.invariant.1 (held c.args.self.now) c.loop-number-test.false c.as_slice-number-items.ensures
