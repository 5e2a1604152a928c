use Rattle.model.proofs.TreesKeep.{tree_files_keep_limits}
use Rattle.model.proofs.theorems.tree_files_keep_limits.Goals as goal

pub returns : goal.returns
returns c = tree_files_keep_limits
