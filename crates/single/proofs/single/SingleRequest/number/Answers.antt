use Rattle.std.proofs.Common.{◌∙◌, rules}
use Rattle.single.proofs.Places.{nth_got}
use Rattle.single.proofs.single.SingleRequest.number.Goals as goal

pub returns : goal.returns
returns c = c.copied.ensures ∙ nth_got _ _ _ c.get.ensures.lookup ∙ search rules
