use Rattle.std.proofs.Common.{refl}
use Rattle.enquiry.proofs.Standing.{starts}
use Rattle.enquiry.proofs.enquiry.Enquiry.restart.Goals as goal

pub returns : goal.returns
returns g c = record {
  starts = λ source. starts (g.T.Tree.meaning c.args.tree.now) _ source c.start.ensures refl refl;
  same = refl;
}
