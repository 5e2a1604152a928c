use Rattle.std.proofs.Common.{◌≡◌, ℕ, ◌+◌, ◌-◌, ◌/◌, Less, Equal, Greater, sym, arith, of_calls}
use Rattle.std.proofs.lemmas.List.Elements.{at_read}
use Rattle.wire.proofs.Narrowed.{whole, after_less, at_greater, parted, next_answer}
use Rattle.wire.proofs.search.search_by.Goals as goal

pub loop-low-init : goal.loop-low-init
loop-low-init g c = (omega arith, omega arith, search of_calls, λ ord h. (h, whole ord _))

pub returns-in-Equal : goal.returns-in-Equal
returns-in-Equal g c =
    let xs = c.args.items.now in
    let m : ℕ = c.loop-low.low + (c.loop-low.high - c.loop-low.low) / 2 in
    record {
      bound = omega arith;
      position = λ ord h.
          let n = next_answer g.F.FnMut _ _ _ _ _ c.in-Equal.ensures (c.loop-low.invariant.3 ord h).0 in
          at_read xs (λ y. ord y ≡ Equal) m c.index-items-middle.result (omega arith) c.index-items-middle.is (sym n.0);
    }

pub loop-low-preserved-in-Less : goal.loop-low-preserved-in-Less
loop-low-preserved-in-Less g c =
    let xs = c.args.items.now in
    let m : ℕ = c.loop-low.low + (c.loop-low.high - c.loop-low.low) / 2 in (
      omega arith,
      omega arith,
      search of_calls,
      λ ord h.
          let i = c.loop-low.invariant.3 ord h in
          let n = next_answer g.F.FnMut _ _ _ _ _ c.in-Less.ensures i.0 in
          (n.1, after_less ord xs _ _ m (omega arith) i.1 (at_read xs (λ y. ord y ≡ Less) m c.index-items-middle.result (omega arith) c.index-items-middle.is (sym n.0))),
    )

pub loop-low-preserved : goal.loop-low-preserved
loop-low-preserved g c =
    let xs = c.args.items.now in
    let m : ℕ = c.loop-low.low + (c.loop-low.high - c.loop-low.low) / 2 in (
      omega arith,
      omega arith,
      search of_calls,
      λ ord h.
          let i = c.loop-low.invariant.3 ord h in
          let n = next_answer g.F.FnMut _ _ _ _ _ c.in-Greater.ensures i.0 in
          (n.1, at_greater ord xs _ _ m i.1 (at_read xs (λ y. ord y ≡ Greater) m c.index-items-middle.result (omega arith) c.index-items-middle.is (sym n.0))),
    )

pub returns : goal.returns
returns g c = record {
  bound = omega arith;
  position = λ ord h. parted ord _ _ _ (omega arith) (c.loop-low.invariant.3 ord h).1;
}
