use Rattle.std.proofs.Common.{[], ◌++◌, None, length, take, sym, ap, ◌∙◌, refl, arith}
use Rattle.std.specs.Iterator.Adapters.{enumerate_source, enumerate_count}
use Rattle.std.proofs.lemmas.List.{length_push, append-nil}
use Rattle.std.proofs.lemmas.Slice.Zip.{either_empty_from_Zip}
use Rattle.model.specs.Rows.{occurrences}
use Rattle.expansion.specs.Few.{held}
use Rattle.expansion.specs.Categories.{picks}
use Rattle.expansion.proofs.Picking.{rest_is, pick_not, pick_it, pick_none}
use Rattle.expansion.proofs.chosen.pick.Goals as goal

pub loop-i-preserved-then-occurrences-taken : goal.loop-i-preserved-then-occurrences-taken
loop-i-preserved-then-occurrences-taken c =
    let s = (c.in-Some.ensures {u = tt}).steps in
    let code = c.in-Some.code.now in
    let o = ap (λ i. occurrences code (take i c.as_slice-each.result.now)) (sym s.1) ∙ sym c.occurrences.ensures ∙ c.if-occurrences-taken.true ∙ c.taken.ensures in
    record {
      picked =
          pick_it (held c.firsts-categories.result) (held c.args.positions.now) c.as_slice-each.result.now _ _ c.in-Some.number.now code _ _ _ _ s.2 s.0.0 s.0.1 c.loop-i.invariant.codes (held c.loop-i.picked) (held c.push.new.self) o c.push.ensures
          ∙ c.loop-i.invariant.picked;
      codes = rest_is (held c.firsts-categories.result) (held c.args.positions.now) c.as_slice-each.result.now _ _ c.in-Some.number.now code _ _ _ _ s.2 s.0.0 s.0.1 c.loop-i.invariant.codes;
      room = omega (arith, ap length s.0.0, ap length c.push.ensures, length_push (held c.loop-i.picked) c.in-Some.number.now, c.loop-i.invariant.room);
    }

pub loop-i-preserved : goal.loop-i-preserved
loop-i-preserved c =
    let s = (c.in-Some.ensures {u = tt}).steps in
    let code = c.in-Some.code.now in
    let o = c.occurrences.ensures ∙ ap (λ i. occurrences code (take i c.as_slice-each.result.now)) s.1 in
    record {
      picked =
          pick_not (held c.firsts-categories.result) (held c.args.positions.now) c.as_slice-each.result.now _ _ c.in-Some.number.now code _ _ _ _ s.2 s.0.0 s.0.1 c.loop-i.invariant.codes (held c.loop-i.picked)
          (λ e. c.if-occurrences-taken.false (o ∙ e ∙ sym c.taken.ensures))
          ∙ c.loop-i.invariant.picked;
      codes = rest_is (held c.firsts-categories.result) (held c.args.positions.now) c.as_slice-each.result.now _ _ c.in-Some.number.now code _ _ _ _ s.2 s.0.0 s.0.1 c.loop-i.invariant.codes;
      room = omega (arith, ap length s.0.0, c.loop-i.invariant.room);
    }

pub returns : goal.returns
returns c =
    let s = (c.in-None.ensures {u = tt}).steps in
    let it = c.loop-i.i-iterator in
    let ended = either_empty_from_Zip (enumerate_source it) (enumerate_source c.next.new.self) None refl s.0 in
    let none = pick_none (held c.firsts-categories.result) (held c.args.positions.now) (take (enumerate_count it) c.as_slice-each.result.now) _ _ ended in
    sym (ap (λ l. held c.loop-i.picked ++ l) none ∙ append-nil (held c.loop-i.picked))
    ∙ c.loop-i.invariant.picked
    ∙ ap (λ l. picks l (held c.args.positions.now) [] (held c.args.numbers.now) (held c.args.codes.now)) c.firsts-categories.ensures
