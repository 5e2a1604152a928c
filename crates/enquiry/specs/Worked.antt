-- What working a list of calls answers. Assumes nothing.
use Rattle.std.specs.Prelude.{◌≡◌, ℕ, List, [], ◌∷◌, map, replicate, vec_items, Ok, Err, Result}
use Rattle.model.specs.declared.call.CallRefusal.{CallRefusal}
use Rattle.model.specs.Content.{Request}
use Rattle.model.specs.Tree.{Tree}
use Rattle.model.specs.Points.{Point}
use Rattle.model.specs.Law as law
use Rattle.model.specs.Law.{reply, after}
use Rattle.model.specs.Conversation.{Exchange}
use Rattle.enquiry.specs.declared.enquiry.Enquiry.{Enquiry}
use Rattle.enquiry.specs.declared.work.Call.{Call}
use Rattle.enquiry.specs.declared.work.Call.TheVariants.{Step, Show, Rewind, Verdict}
use Rattle.enquiry.specs.declared.work.Reply.{Reply}
use Rattle.enquiry.specs.declared.work.Reply.TheVariants.{Row, Wrote, Rewound, Judged}
use Rattle.enquiry.specs.Rows.{row_of}
use Rattle.enquiry.specs.Calls.{content, Standing}
use Rattle.enquiry.specs.Runs.{Run}

abbrev pub call_of : Call → law.Call
call_of Step = law.step
call_of (Show size) = law.show (replicate size 0)
call_of Rewind = law.rewind
call_of Verdict = law.verdict

abbrev pub reply_of : Reply → law.Reply
reply_of (Row r) = law.row (row_of r)
reply_of (Wrote n buffer) = law.wrote n (vec_items buffer)
reply_of Rewound = law.rewound
reply_of (Judged d) = law.judged d

-- a reply, or why the call is refused
abbrev pub answer_of : Result Reply CallRefusal → law.Reply
answer_of (Ok r) = reply_of r
answer_of (Err refusal) = law.refuses refusal

abbrev pub calls_of : List Call → List law.Call
calls_of cs = map call_of cs

abbrev pub replies_of : List (Result Reply CallRefusal) → List law.Reply
replies_of rs = map answer_of rs

-- the replies of the rules where k rows have been handed out, and how many have been after the calls
module _ (q : Request) (tree : Tree) (point : Point) where
  abbrev pub replies : ℕ → List law.Call → List law.Reply
  replies k [] = []
  replies k (c ∷ cs) = reply q tree point c k ∷ replies (after q tree point c k) cs

  abbrev pub after_all : ℕ → List law.Call → ℕ
  after_all k [] = k
  after_all k (c ∷ cs) = after_all (after q tree point c k) cs

-- what has been said after these calls and replies, the latest first
abbrev pub said : List law.Call → List law.Reply → List Exchange → List Exchange
said [] rs past = past
said (c ∷ cs) [] past = past
said (c ∷ cs) (a ∷ rs) past = said cs rs (record { call = c; answer = a } ∷ past)

pub record Replies (tree : Tree) (point : Point) (e : Enquiry) (calls : List law.Call) (rs : List law.Reply) (e' : Enquiry) : Type 0 where
  pub replies : rs ≡ replies (content e) tree point e.handed calls
  pub handed : e'.handed ≡ after_all (content e) tree point e.handed calls
  pub content : content e' ≡ content e
  pub standing : Standing tree point e'

-- each call was made in turn: the replies are the rules' for this very list, and whatever was said before, this is what has been said now
pub record Worked (tree : Tree) (point : Point) (e : Enquiry) (calls : List law.Call) (rs : List law.Reply) (e' : Enquiry) : Type 0 where
  pub answers : Standing tree point e → Replies tree point e calls rs e'
  pub run : (from : Enquiry) (past : List Exchange) → Run tree point from past e → Run tree point from (said calls rs past) e'
