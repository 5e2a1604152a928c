use Rattle.std.proofs.Common.{sym, refl, ap, ◌∙◌}
use Rattle.model.specs.Rows.{spots}
use Rattle.request.specs.Place.{content_of}
use Rattle.enquiry.specs.Calls.{nothing}
use Rattle.enquiry.proofs.Standing.{starts}
use Rattle.enquiry.proofs.enquiry.Enquiry.new.Goals as goal

pub returns : goal.returns
returns c =
    let empty = c.in_ok-request.ensures in
    record {
      empty = empty;
      starts = λ tree.
          let before = c.in_ok-cursor.ensures tree (content_of c.in_ok-request.request) in
          starts tree _ (nothing empty) (record { over = before.over; ahead = before.ahead ∙ ap (λ q. spots q tree) (sym empty) }) refl refl;
    }
