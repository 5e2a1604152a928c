-- What collecting all rows gives. Assumes nothing.
use Rattle.std.specs.Prelude.{◌≡◌, List, map, Ok, Err, Result}
use Rattle.model.specs.Content.{Request}
use Rattle.model.specs.Layout.{Refusal}
use Rattle.model.specs.Points.{Point}
use Rattle.model.specs.Rows.{Row}
use Rattle.model.specs.Tree.{Tree}
use Rattle.model.specs.Conversation.{Ended}
use Rattle.request.specs.Refused.{in_request_fault}
use Rattle.enquiry.specs.declared.row.Row.{Row as ToldRow}
use Rattle.enquiry.specs.Rows.{row_of}
use Rattle.conformance.specs.declared.collect.Stop.{Stop}
use Rattle.conformance.specs.declared.collect.Stop.TheVariants.{Refused, NoMemory}

abbrev pub rows_of : List ToldRow → List Row
rows_of rs = map row_of rs

-- every row of the request that was read is there, in order, none twice, and they are as many as the sum says
abbrev pub Complete : Tree → Point → Result Request Refusal → List Row → Type 0
Complete tree point (Ok q) rows = Ended q tree point rows
Complete tree point (Err e) rows = ⊥

-- the request was refused, for this reason; of want of memory nothing is said
abbrev pub Stopped : Result Request Refusal → Stop → Type 0
Stopped r (Refused fault) = Err (in_request_fault fault) ≡ r
Stopped r NoMemory = Unit {0}
