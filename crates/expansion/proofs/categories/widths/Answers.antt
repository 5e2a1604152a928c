use Rattle.std.proofs.Common.{ap, ◌∙◌}
use Rattle.request.specs.Place.{content_of}
use Rattle.expansion.specs.Few.{held}
use Rattle.expansion.specs.Listed.{listed_of}
use Rattle.expansion.specs.Choice.{positive}
use Rattle.expansion.proofs.Codes.{widths_are, widths_positive}
use Rattle.expansion.proofs.categories.widths.Goals as goal

pub returns : goal.returns
returns c =
    let es = (content_of c.args.request.now).elements in
    let ks = held c.args.listed.now in
    let w = c.counts.ensures ∙ widths_are es ks (held c.codes.result) c.codes.ensures in
    record { widths = w; positive = ap positive w ∙ widths_positive (listed_of es ks) }
