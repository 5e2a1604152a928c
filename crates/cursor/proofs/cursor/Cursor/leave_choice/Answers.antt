use Rattle.std.proofs.Common.{◌+◌, ◌∙◌}
use Rattle.request.specs.Place.{content_of}
use Rattle.expansion.specs.Choice.{after_choice}
use Rattle.expansion.specs.Few.{held}
use Rattle.cursor.specs.Ahead.{listed, from_reference}
use Rattle.cursor.proofs.Rows.{first_choice}
use Rattle.cursor.proofs.cursor.Cursor.leave_choice.Goals as goal

pub returns-in-Some : goal.returns-in-Some
returns-in-Some g c = λ few explored choosing.
    let tree = g.T.Tree.meaning c.args.tree.now in
    let q = content_of c.args.request.now in
    let self = c.args.self.now in
    let ws = held self.widths in
    let ps = held c.in-Some.choice in
    let before = c.settle.ensures explored (record {
      within = choosing.within;
      named = choosing.named;
      some = choosing.some;
      long = c.in-Some.ensures.long;
    }) in
    record {
      over = before.over;
      ahead =
          before.ahead
          ∙ first_choice tree self.reference (listed q self) ps (after_choice ws ps) (after_choice ws (held self.choice))
          (from_reference tree q (self.reference + 1)) (c.in-Some.ensures.walk choosing.some choosing.long);
    }
