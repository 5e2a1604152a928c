use Rattle.request.specs.Place.{content_of}
use Rattle.expansion.specs.Few.{held}
use Rattle.expansion.proofs.Picking.{chosen_is, chosen_named}
use Rattle.expansion.proofs.chosen.chosen.Goals as goal

pub returns : goal.returns
returns c =
    let ks = held c.args.listed.now in
    let ps = held c.args.choice.now in
    let codes = held c.codes.result in
    let new = held c.pick.result in
    record { chosen = chosen_is (content_of c.args.request.now).elements ps ks codes new c.codes.ensures c.pick.ensures; names = chosen_named ps ks codes new c.pick.ensures }
