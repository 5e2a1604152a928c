use Rattle.model.proofs.PointsKeep.{point_files_fit}
use Rattle.model.proofs.theorems.point_files_fit.Goals as goal

pub returns : goal.returns
returns c = point_files_fit
