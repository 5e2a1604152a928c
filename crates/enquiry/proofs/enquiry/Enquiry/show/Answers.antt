use Rattle.std.proofs.Common.{◌≡◌, Some, None, Err, sym, ap, subst, rules}
use Rattle.model.specs.declared.call.CallRefusal.TheVariants.{Ended}
use Rattle.model.specs.Law.{show as showing}
use Rattle.model.specs.Rows.{single_request}
use Rattle.expansion.specs.Few.{held}
use Rattle.expansion.specs.Listed.{listed_of}
use Rattle.cursor.specs.Ahead.{Tells}
use Rattle.cursor.specs.Spots.{basis_of, spot_of, BasisNames}
use Rattle.enquiry.specs.Calls.{content, Answers, show_told}
use Rattle.enquiry.proofs.Standing.{told_write, next_is, show_ended, show_fault, show_on}
use Rattle.enquiry.proofs.enquiry.Enquiry.show.Goals as goal

pub returns-in_err-spot-clause-shows : goal.returns-in_err-spot-clause-shows
returns-in_err-spot-clause-shows g c = λ point standing.
    let tree = g.T.Tree.meaning c.args.tree.now in
    let self = c.args.self.now in
    let tells = subst (Tells tree (content self) self.cursor) c.in_err-spot.ensures.ok_part (c.spot.ensures tree (content self) standing.over) in
    let ended : c.from_residual.result ≡ Err Ended = search rules in
    subst (λ r. Answers tree point self (showing c.args.buffer.now) (show_told r c.args.buffer.now) self) (sym ended)
    (show_ended tree point self standing c.args.buffer.now (next_is tree point self standing None tells.next))

pub returns-in_default-clause-shows : goal.returns-in_default-clause-shows
returns-in_default-clause-shows g c = λ point standing.
    let tree = g.T.Tree.meaning c.args.tree.now in
    let self = c.args.self.now in
    let es = (content self).elements in
    let spot = c.in_ok-spot.spot in
    let tells = subst (Tells tree (content self) self.cursor) c.in_ok-spot.ensures.ok_part (c.spot.ensures tree (content self) standing.over) in
    show_fault tree point self standing c.args.buffer.now (spot_of tree es spot) c.in_default.field-0 c.in_default.field-1
    (next_is tree point self standing (Some (spot_of tree es spot)) tells.next) (ap (basis_of tree es spot.node) c.in_default.is)

pub returns-clause-shows : goal.returns-clause-shows
returns-clause-shows g c = λ point standing.
    let tree = g.T.Tree.meaning c.args.tree.now in
    let self = c.args.self.now in
    let es = (content self).elements in
    let spot = c.in_ok-spot.spot in
    let tells = subst (Tells tree (content self) self.cursor) c.in_ok-spot.ensures.ok_part (c.spot.ensures tree (content self) standing.over) in
    let told : c.map_err.result ≡ told_write c.write.result = search rules in
    subst (λ r. Answers tree point self (showing c.args.buffer.now) (show_told r c.write.new.buffer) self) (sym told)
    (show_on tree point self standing c.args.buffer.now (g.T.Tree.limits c.args.tree.now) (spot_of tree es spot)
    (single_request tree spot.node (listed_of es (held c.in-Single.chosen))) c.write.result c.write.new.buffer
    (next_is tree point self standing (Some (spot_of tree es spot)) tells.next) (ap (basis_of tree es spot.node) c.in-Single.is)
    c.write.auto.buffer (c.write.ensures.writes (subst (BasisNames es) c.in-Single.is tells.names)))
