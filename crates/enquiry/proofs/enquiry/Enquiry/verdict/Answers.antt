use Rattle.std.proofs.Common.{◌≡◌, true, false, is_some, None, Option, sym, ap, ◌∙◌}
use Rattle.std.specs.Option.{option_map}
use Rattle.model.specs.Lists.{nth}
use Rattle.model.specs.Points.{Point}
use Rattle.model.specs.Rows.{spots}
use Rattle.model.specs.Tree.{Tree}
use Rattle.cursor.specs.declared.spot.Spot.{Spot}
use Rattle.cursor.specs.Ahead.{Tells}
use Rattle.cursor.specs.Spots.{spot_of}
use Rattle.enquiry.specs.declared.enquiry.Enquiry.{Enquiry}
use Rattle.enquiry.specs.Calls.{content, Standing}
use Rattle.enquiry.proofs.Moves.{none_of, some_of}
use Rattle.enquiry.proofs.Standing.{next_is, unasked, rows_left, judges}
use Rattle.enquiry.proofs.enquiry.Enquiry.verdict.Goals as goal

-- where the cursor tells no spot, no row is left
ended : (tree : Tree) (point : Point) (e : Enquiry) (standing : Standing tree point e) (o : Option Spot) → Tells tree (content e) e.cursor o
    → is_some o ≡ false → nth (spots (content e) tree) e.handed ≡ None
ended tree point e standing o tells none =
    next_is tree point e standing (option_map (spot_of tree (content e).elements) o) tells.next ∙ ap (option_map (spot_of tree (content e).elements)) (none_of o none)

pub returns-then-not-combined : goal.returns-then-not-combined
returns-then-not-combined c = λ tree point standing. unasked tree point c.args.self.now standing (sym c.if-not-combined.ensures)

pub returns-then-is_some : goal.returns-then-is_some
returns-then-is_some c = λ tree point standing.
    let self = c.args.self.now in
    let es = (content self).elements in
    let tells = c.spot.ensures tree (content self) standing.over in
    let some = some_of c.spot.result (sym c.if-is_some.ensures) in
    rows_left tree point self standing (spot_of tree es some.0) (sym c.if-not-combined.ensures)
    (next_is tree point self standing (option_map (spot_of tree es) c.spot.result) tells.next ∙ ap (option_map (spot_of tree es)) some.1)

pub returns-then-self : goal.returns-then-self
returns-then-self c = λ tree point standing.
    let self = c.args.self.now in
    let tells = c.spot.ensures tree (content self) standing.over in
    judges tree point self standing true c.if-self.true (sym c.if-not-combined.ensures)
    (ended tree point self standing c.spot.result tells (sym c.if-is_some.ensures))

pub returns-else-self : goal.returns-else-self
returns-else-self c = λ tree point standing.
    let self = c.args.self.now in
    let tells = c.spot.ensures tree (content self) standing.over in
    judges tree point self standing false c.if-self.false (sym c.if-not-combined.ensures)
    (ended tree point self standing c.spot.result tells (sym c.if-is_some.ensures))
