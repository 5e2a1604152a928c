use Rattle.std.proofs.Common.{map, ap, arith}
use Rattle.std.specs.Option.{option_map}
use Rattle.model.specs.Rows.{bare}
use Rattle.request.specs.Place.{content_of}
use Rattle.single.proofs.Numbers.{chosen_below, chosen_there, chosen_absent}
use Rattle.single.proofs.Viewing.{held_length}
use Rattle.single.proofs.single.SingleRequest.new.Goals as goal

pub invariant_of-result : goal.invariant_of-result
invariant_of-result c =
    let request = c.args.request.now in
    let long = held_length request c.elements.result.now c.elements.ensures in
    record { most = omega arith; few = omega arith; numbers = chosen_below (content_of request).elements c.args.chosen c.args.count _ _ _ _ (omega arith) c.from.ensures long c.all_below.ensures c.if-all_below.true }

pub returns-then-all_below : goal.returns-then-all_below
returns-then-all_below c =
    let request = c.args.request.now in
    let long = held_length request c.elements.result.now c.elements.ensures in
    let e = chosen_there (content_of request).elements c.args.chosen c.args.count _ _ _ _ (omega arith) c.from.ensures long c.all_below.ensures c.if-all_below.true in
    record { chosen = e; content = ap (option_map (map bare)) e }

pub returns-else-all_below : goal.returns-else-all_below
returns-else-all_below c =
    let request = c.args.request.now in
    let long = held_length request c.elements.result.now c.elements.ensures in
    let e = chosen_absent (content_of request).elements c.args.chosen c.args.count _ _ _ _ (omega arith) c.from.ensures long c.all_below.ensures c.if-all_below.false in
    record { chosen = e; content = ap (option_map (map bare)) e }
