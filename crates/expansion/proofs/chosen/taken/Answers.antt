use Rattle.std.proofs.Common.{sym, ◌∙◌}
use Rattle.std.proofs.lemmas.Slice.Zip.{either_empty_from_Zip}
use Rattle.expansion.proofs.Picking.{taken_none}
use Rattle.expansion.proofs.chosen.taken.Goals as goal

pub returns : goal.returns
returns c = sym (taken_none _ _ c.args.category (either_empty_from_Zip c.loop-other.other-iterator c.next.new.self c.next.result c.in-None.is c.next.ensures.steps)) ∙ c.loop-other.invariant
