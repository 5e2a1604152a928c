use Rattle.std.proofs.Common.{◌≡◌, ◌+◌, ◌-◌, ◌<◌, length, get_or, drop, Some, sym, ap, ◌∙◌, ap₂, arith}
use Rattle.expansion.specs.Few.{held}
use Rattle.expansion.specs.Choice.{next_choice, from_choice}
use Rattle.expansion.proofs.Successor.{next_walk, moves_here, still_here, put_cleared, zero_cleared}
use Rattle.expansion.proofs.choice.next.Goals as goal

pub returns-then-positions-i-clause-walk : goal.returns-then-positions-i-clause-walk
returns-then-positions-i-clause-walk c = λ h l.
    let ws = c.as_slice-widths.result.now in
    let ps = c.as_slice-positions.result.now in
    let n = c.loop-i.i in
    let i = n - 1 in
    let e : n ≡ i + 1 = omega arith in
    let iw : i < length ws = omega (arith, c.loop-i.invariant.2) in
    let ip : i < length ps = omega (arith, c.loop-i.invariant.2) in
    let m = moves_here ws ps n i e iw ip c.loop-i.invariant.0 (omega arith) in
    let q = put_cleared n i e ps (held c.loop-i.next) (held c.put.new.self) (get_or ps i 0 + 1) ip c.loop-i.invariant.1 c.put.ensures in
    let o = ap₂ next_choice (sym c.as_slice-widths.ensures) (sym c.as_slice-positions.ensures) ∙ m ∙ ap Some (sym q) in
    next_walk (held c.args.widths.now) (held c.args.choice.now) h l ∙ ap (from_choice (held c.args.widths.now)) o

pub loop-i-preserved : goal.loop-i-preserved
loop-i-preserved c =
    let ws = c.as_slice-widths.result.now in
    let ps = c.as_slice-positions.result.now in
    let n = c.loop-i.i in
    let i = n - 1 in
    let e : n ≡ i + 1 = omega arith in
    let iw : i < length ws = omega (arith, c.loop-i.invariant.2) in
    let ip : i < length ps = omega (arith, c.loop-i.invariant.2) in (
      still_here ws ps n i e iw ip c.loop-i.invariant.0 (omega arith),
      put_cleared n i e ps (held c.loop-i.next) (held c.put-in-loop-i.new.self) 0 ip c.loop-i.invariant.1 c.put-in-loop-i.ensures ∙ zero_cleared i ps ip,
      omega arith,
    )

pub returns-clause-walk : goal.returns-clause-walk
returns-clause-walk c = λ h l.
    let z : c.loop-i.i ≡ 0 = omega arith in
    let ws = c.as_slice-widths.result.now in
    let ps = c.as_slice-positions.result.now in
    let m = ap (λ k. next_choice (drop k ws) (drop k ps)) (sym z) ∙ c.loop-i.invariant.0 in
    let o = ap₂ next_choice (sym c.as_slice-widths.ensures) (sym c.as_slice-positions.ensures) ∙ m in
    next_walk (held c.args.widths.now) (held c.args.choice.now) h l ∙ ap (from_choice (held c.args.widths.now)) o
