-- What each call of an enquiry gives. Assumes nothing.
use Rattle.std.specs.Prelude.{ℕ, ◌+◌, Bool, true, false, cond, ◌&&◌, List, [], ◌∷◌, ◌++◌, length, drop, Some, None, Option, nat_lt}
use Rattle.model.specs.declared.decision.Decision.{Decision}
use Rattle.model.specs.declared.decision.Decision.TheVariants.{Permit, Deny, Indeterminate, NotApplicable}
use Rattle.model.specs.declared.call.CallRefusal.{CallRefusal}
use Rattle.model.specs.declared.call.CallRefusal.TheVariants.{Ended, RowsLeft, NoVerdict, TooShort, FaultRow}
use Rattle.model.specs.Content.{Request}
use Rattle.model.specs.Lists.{nth}
use Rattle.model.specs.Tree.{Tree}
use Rattle.model.specs.Points.{Point}
use Rattle.model.specs.Rows.{Basis, fault, single, single_bytes, Spot, spots, Row, rows}

pub data Call : Type 0 where
  step : Call
  -- into a buffer that holds these bytes
  show : List ℕ → Call
  rewind : Call
  verdict : Call

pub data Reply : Type 0 where
  row : Row → Reply
  -- how long the single request is, and what the buffer then holds
  wrote : ℕ → List ℕ → Reply
  rewound : Reply
  judged : Decision → Reply
  refuses : CallRefusal → Reply

-- THE VERDICT'S RULE

abbrev pub is_permitting : Decision → Bool
is_permitting Permit = true
is_permitting Deny = false
is_permitting Indeterminate = false
is_permitting NotApplicable = false

abbrev pub all_permit : List Row → Bool
all_permit [] = true
all_permit (r ∷ rs) = is_permitting r.decision && all_permit rs

abbrev pub verdict_over : List Row → Decision
verdict_over rs = cond (all_permit rs) Permit Deny

-- WHAT A CALL GIVES WHERE k ROWS HAVE BEEN HANDED OUT

abbrev pub step_reply : Option Row → Reply
step_reply (Some r) = row r
step_reply None = refuses Ended

abbrev pub write_reply : List ℕ → List ℕ → Reply
write_reply buffer bytes =
    cond (nat_lt (length buffer) (length bytes)) (refuses (TooShort (length bytes)))
    (wrote (length bytes) (bytes ++ drop (length bytes) buffer))

abbrev pub basis_reply : List ℕ → Basis → Reply
basis_reply buffer (fault cause place) = refuses FaultRow
basis_reply buffer (single es) = write_reply buffer (single_bytes es)

abbrev pub show_reply : List ℕ → Option Spot → Reply
show_reply buffer (Some s) = basis_reply buffer s.basis
show_reply buffer None = refuses Ended

-- whether a verdict is asked for, whether a row is left, and the verdict
abbrev pub verdict_reply : Bool → Bool → Decision → Reply
verdict_reply false left d = refuses NoVerdict
verdict_reply true true d = refuses RowsLeft
verdict_reply true false d = judged d

module _ (q : Request) (tree : Tree) (point : Point) where
  abbrev pub is_left : ℕ → Bool
  is_left k = nat_lt k (length (rows q tree point))

  abbrev pub reply : Call → ℕ → Reply
  reply step k = step_reply (nth (rows q tree point) k)
  reply (show buffer) k = show_reply buffer (nth (spots q tree) k)
  reply rewind k = rewound
  reply verdict k = verdict_reply q.combined (is_left k) (verdict_over (rows q tree point))

  -- how many have been handed out after it
  abbrev pub after : Call → ℕ → ℕ
  after step k = cond (is_left k) (k + 1) k
  after (show buffer) k = k
  after rewind k = 0
  after verdict k = k
