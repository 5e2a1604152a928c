-- Where an enquiry stands, and what each call does to it and answers. Assumes nothing.
use Rattle.std.specs.Prelude.{◌≡◌, ℕ, ◌≤◌, List, length, take, drop, Ok, Err, Result}
use Rattle.model.specs.declared.call.CallRefusal.{CallRefusal}
use Rattle.model.specs.declared.decision.Decision.{Decision}
use Rattle.model.specs.Content.{Request, read_request}
use Rattle.model.specs.Tree.{Tree}
use Rattle.model.specs.Points.{Point}
use Rattle.model.specs.Rows.{spots, rows}
use Rattle.model.specs.Law.{Call, Reply, row, wrote, judged, refuses, all_permit, reply, after}
use Rattle.request.specs.Held.{none_held}
use Rattle.request.specs.Place.{bytes_of, content_of}
use Rattle.cursor.specs.Ahead.{ahead, Over}
use Rattle.enquiry.specs.declared.enquiry.Enquiry.{Enquiry}
use Rattle.enquiry.specs.declared.row.Row.{Row as ToldRow}
use Rattle.enquiry.specs.Rows.{row_of}

-- the request that is held
abbrev pub content : Enquiry → Request
content e = content_of e.request

-- WHERE IT STANDS

-- the request was read from bytes, or none was opened yet
pub data Source (q : Request) : Type 0 where
  read : (bytes : List ℕ) → read_request bytes ≡ Ok q → Source q
  nothing : q ≡ none_held → Source q

-- so many of its rows over this tree and this decision point have been handed out, and the others are ahead
pub record Standing (tree : Tree) (point : Point) (e : Enquiry) : Type 0 where
  pub source : Source (content e)
  pub over : Over tree (content e) e.cursor
  pub within : e.handed ≤ length (spots (content e) tree)
  pub ahead : ahead tree (content e) e.cursor ≡ drop e.handed (spots (content e) tree)
  pub permitted : e.permitted ≡ all_permit (take e.handed (rows (content e) tree point))

-- before the first row of the request, whatever the decision point
pub record Starts (tree : Tree) (e : Enquiry) : Type 0 where
  pub none_handed : e.handed ≡ 0
  pub standing : (point : Point) → Standing tree point e

-- all that a caller can see of it is as it was
pub record Unchanged (e e' : Enquiry) : Type 0 where
  pub content : content e' ≡ content e
  pub bytes : bytes_of e'.request ≡ bytes_of e.request
  pub cursor : e'.cursor ≡ e.cursor
  pub handed : e'.handed ≡ e.handed
  pub permitted : e'.permitted ≡ e.permitted

-- it stands before the first row of what was read, or is as it was where that was refused
abbrev pub Opens : {F : Type 0} → Tree → Enquiry → Result (Unit {0}) F → Enquiry → Type 0
Opens tree e (Ok u) e' = Starts tree e'
Opens tree e (Err f) e' = Unchanged e e'

-- WHAT A CALL DOES

-- the answer is the rules', so many rows have then been handed out, and the request is the same
pub record Answers (tree : Tree) (point : Point) (e : Enquiry) (call : Call) (a : Reply) (e' : Enquiry) : Type 0 where
  pub answer : a ≡ reply (content e) tree point call e.handed
  pub handed : e'.handed ≡ after (content e) tree point call e.handed
  pub content : content e' ≡ content e
  pub standing : Standing tree point e'

-- the call was made over the tree and the decision point that the enquiry stands over
abbrev pub Works : Tree → Point → Enquiry → Call → Reply → Enquiry → Type 0
Works tree point e call a e' = Standing tree point e → Answers tree point e call a e'

-- WHAT THE ANSWERS OF THE CODE SAY

abbrev pub step_told : Result ToldRow CallRefusal → Reply
step_told (Ok r) = row (row_of r)
step_told (Err refusal) = refuses refusal

-- with what the buffer then holds
abbrev pub show_told : Result ℕ CallRefusal → List ℕ → Reply
show_told (Ok n) buffer = wrote n buffer
show_told (Err refusal) buffer = refuses refusal

abbrev pub verdict_told : Result Decision CallRefusal → Reply
verdict_told (Ok d) = judged d
verdict_told (Err refusal) = refuses refusal

-- a refusal leaves every byte of the buffer
abbrev pub Left : {X F : Type 0} → Result X F → List ℕ → List ℕ → Type 0
Left (Ok x) before after = Unit {0}
Left (Err refusal) before after = after ≡ before
