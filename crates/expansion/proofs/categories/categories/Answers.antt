use Rattle.std.proofs.Common.{◌∙◌}
use Rattle.request.specs.Place.{content_of}
use Rattle.expansion.specs.Few.{held}
use Rattle.expansion.proofs.Codes.{categories_are}
use Rattle.expansion.proofs.categories.categories.Goals as goal

pub returns : goal.returns
returns c =
    c.firsts.ensures
    ∙ categories_are (content_of c.args.request.now).elements (held c.args.listed.now) (held c.codes.result) c.codes.ensures
