use Rattle.std.proofs.Common.{refl, ap}
use Rattle.request.specs.Place.{content_of}
use Rattle.enquiry.proofs.enquiry.Enquiry.rewind.Goals as goal

pub returns : goal.returns
returns g c = λ point standing.
    let first = c.restart.ensures.starts standing.source in
    record {
      answer = refl;
      handed = first.none_handed;
      content = ap content_of c.restart.ensures.same;
      standing = first.standing point;
    }
