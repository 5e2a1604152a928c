-- What the parts of an answer say. Assumes nothing.
use Rattle.model.specs.PointFiles as files
use Rattle.model.specs.PointFiles.{met, unmet, unknown}
use Rattle.rule_policy.specs.declared.truth.Truth.{Truth}
use Rattle.rule_policy.specs.declared.truth.Truth.TheVariants.{Met, False, Indeterminate}

abbrev pub judged : Truth → files.Truth
judged Met = met
judged False = unmet
judged Indeterminate = unknown
