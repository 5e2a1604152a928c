use Rattle.std.proofs.Common.{Some, ap, ◌∙◌}
use Rattle.single.proofs.Viewing.{held_in, category_read}
use Rattle.single.proofs.single.SingleRequest.category.Goals as goal

pub bounds-elements-from : goal.bounds-elements-from
bounds-elements-from c = held_in c.args.self.now c.args.element c.elements.result.now c.elements.ensures _ (ap Some c.from.ensures ∙ c.in_ok-number.ensures)

pub returns : goal.returns
returns c = category_read c.args.self.now c.args.element c.elements.result.now c.elements.ensures _ (ap Some c.from.ensures ∙ c.in_ok-number.ensures) _
