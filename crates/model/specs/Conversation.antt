-- The law: what a caller of an enquiry is told, over every sequence of calls. Assumes nothing.
use Rattle.std.specs.Prelude.{◌≡◌, ℕ, ◌<◌, ◌≤◌, true, false, ◌⊎◌, List, [], ◌∷◌, ◌++◌, length, drop, Ok, ◌≢◌}
use mathlib.Core.List.{Memᴰ}
use Rattle.model.specs.declared.decision.Decision.{Decision}
use Rattle.model.specs.declared.decision.Decision.TheVariants.{Permit, Deny}
use Rattle.model.specs.declared.decision.Cause.{Cause}
use Rattle.model.specs.declared.call.CallRefusal.TheVariants as refusal
use Rattle.model.specs.Content.{Element, Request, read_request}
use Rattle.model.specs.Tree.{Tree, Limits}
use Rattle.model.specs.Points.{Point}
use Rattle.model.specs.Rows.{Basis, fault, single, request_of, single_bytes, Row}
use Rattle.model.specs.Meaning.{Stand, Before, RowOf, FirstRows, AllRows}
use Rattle.model.specs.Total.{total}
use Rattle.model.specs.Law.{Call, step, show, rewind, verdict, Reply, row, wrote, rewound, judged, refuses, reply, after}

-- WHAT HAS BEEN SAID

-- a call, and what it was answered
pub record Exchange : Type 0 where
  pub call : Call
  pub answer : Reply

-- the rows handed out since the opening or the last rewind, after one more exchange
abbrev pub kept : Call → Reply → List Row → List Row
kept step (row r) given = given ++ r ∷ []
kept step (wrote n b) given = given
kept step rewound given = given
kept step (judged d) given = given
kept step (refuses n) given = given
kept (show b) a given = given
kept rewind a given = []
kept verdict a given = given

-- the latest exchange stands first
abbrev pub handed_out : List Exchange → List Row
handed_out [] = []
handed_out (x ∷ past) = kept x.call x.answer (handed_out past)

-- the verdict's rule
pub data Verdict (given : List Row) : Decision → Type 0 where
  every_one_permits : ((r : Row) → Memᴰ r given → r.decision ≡ Permit) → Verdict given Permit
  one_does_not : {r : Row} → Memᴰ r given → (r.decision ≢ Permit) → Verdict given Deny

module _ (q : Request) (tree : Tree) (point : Point) where
  -- WHERE THE CALLER STANDS

  -- every row of the request has been handed out, as many as the sum says
  pub record Ended (given : List Row) : Type 0 where
    pub all : AllRows q tree point given
    pub as_many : length given ≡ total q tree

  -- one is left
  abbrev pub Left : List Row → Type 0
  Left given = length given < total q tree

  -- r is the first row of the request that is not among the given ones, and rests on b
  pub record Next (given : List Row) (r : Row) (b : Basis) : Type 0 where
    pub left : Left given
    pub stand : Stand
    pub is_row : RowOf q tree point r stand b
    pub is_new : Memᴰ r given → ⊥
    pub is_first : (other : Row) (s : Stand) (c : Basis) → RowOf q tree point other s c → (Memᴰ other given → ⊥)
        → (other ≡ r) ⊎ Before tree stand s

  -- the single request's bytes open to those elements alone; over the same tree and decision point the new enquiry hands out one row and ends,
  -- with the decision, status and place of the shown row: the decision point's own for the single request
  pub record OpensToOneRow (shown : Row) (es : List Element) : Type 0 where
    pub opens : read_request (single_bytes es) ≡ Ok (request_of es)
    pub only : Row
    pub steps : reply (request_of es) tree point step 0 ≡ row only
    pub ends : reply (request_of es) tree point step 1 ≡ refuses refusal.Ended
    pub all : AllRows (request_of es) tree point (only ∷ [])
    pub one : total (request_of es) tree ≡ 1
    pub same_decision : only.decision ≡ shown.decision
    pub same_status : only.status ≡ shown.status
    pub same_place : only.place ≡ shown.place
    pub own_decision : shown.decision ≡ (point es).decision
    pub own_status : shown.status ≡ (point es).status
    pub own_place : shown.place ≡ (point es).place

  -- WHAT A CALL MAY BE ANSWERED, where these rows have been handed out

  pub data Told (given : List Row) : Call → Reply → Type 0 where
    a_row : {r : Row} {b : Basis} → Next given r b → Told given step (row r)
    no_row : Ended given → Told given step (refuses refusal.Ended)
    -- the single request, and the buffer's later bytes as they were
    written : {buffer : List ℕ} {r : Row} {es : List Element} → Next given r (single es) → length (single_bytes es) ≤ length buffer
        → OpensToOneRow r es
        → Told given (show buffer) (wrote (length (single_bytes es)) (single_bytes es ++ drop (length (single_bytes es)) buffer))
    nothing_to_show : {buffer : List ℕ} → Ended given → Told given (show buffer) (refuses refusal.Ended)
    fault_to_show : {buffer : List ℕ} {r : Row} {c : Cause} {p : ℕ} → Next given r (fault c p) → Told given (show buffer) (refuses refusal.FaultRow)
    too_little_room : {buffer : List ℕ} {r : Row} {es : List Element} → Next given r (single es) → length buffer < length (single_bytes es)
        → Told given (show buffer) (refuses (refusal.TooShort (length (single_bytes es))))
    back_to_the_start : Told given rewind rewound
    a_verdict : {d : Decision} → q.combined ≡ true → Ended given → Verdict given d → Told given verdict (judged d)
    no_verdict_asked : q.combined ≡ false → Told given verdict (refuses refusal.NoVerdict)
    rows_left : q.combined ≡ true → Left given → Told given verdict (refuses refusal.RowsLeft)

  -- after every exchange: the rows so far are the request's first ones, and each answer was a right one
  abbrev pub Holds : List Exchange → Type 0
  Holds [] = FirstRows q tree point []
  Holds (x ∷ past) = FirstRows q tree point (handed_out (x ∷ past)) × Told (handed_out past) x.call x.answer × Holds past

  -- THE CONVERSATION OF ANY CALLS, the latest first

  abbrev pub rows_out : List Call → ℕ
  rows_out [] = 0
  rows_out (c ∷ cs) = after q tree point c (rows_out cs)

  abbrev pub conversation : List Call → List Exchange
  conversation [] = []
  conversation (c ∷ cs) = record { call = c; answer = reply q tree point c (rows_out cs) } ∷ conversation cs

-- THE LAW

abbrev pub EveryConversationHolds : Type 0
EveryConversationHolds = (bytes : List ℕ) (q : Request) (tree : Tree) (point : Point) → read_request bytes ≡ Ok q → Limits tree
    → (calls : List Call) → Holds q tree point (conversation q tree point calls)

-- and what is told settles the answer: no other would hold
abbrev pub AnswersAreSettled : Type 0
AnswersAreSettled = (bytes : List ℕ) (q : Request) (tree : Tree) (point : Point) → read_request bytes ≡ Ok q → Limits tree
    → (given : List Row) (call : Call) (one other : Reply) → Told q tree point given call one → Told q tree point given call other → one ≡ other
