-- Any sequence of calls of an enquiry, and the law that it keeps. Assumes nothing.
use Rattle.std.specs.Prelude.{List, [], ◌∷◌, Ok, Err, Result}
use Rattle.model.specs.Content.{Request}
use Rattle.model.specs.Tree.{Tree}
use Rattle.model.specs.Points.{Point}
use Rattle.model.specs.Law.{Call, Reply}
use Rattle.model.specs.Conversation.{Exchange, Holds}
use Rattle.enquiry.specs.declared.enquiry.Enquiry.{Enquiry}
use Rattle.enquiry.specs.Calls.{content, Unchanged, Works}

-- what was said, the latest first, led from e to another enquiry; each step is the contract of its call.
-- An opening that is refused may come between, and is not heard of.
pub data Run (tree : Tree) (point : Point) (e : Enquiry) : List Exchange → Enquiry → Type 0 where
  start : Run tree point e [] e
  by_call : {past : List Exchange} {e' e'' : Enquiry} {call : Call} {a : Reply} → Run tree point e past e' → Works tree point e' call a e''
      → Run tree point e (record { call = call; answer = a } ∷ past) e''
  by_refusal : {past : List Exchange} {e' e'' : Enquiry} → Run tree point e past e' → Unchanged e' e'' → Run tree point e past e''

-- THE LAW: over every decision point and every sequence of calls, the rows handed out are the request's first ones and each answer is a right one
abbrev pub Law : Tree → Request → Enquiry → Type 0
Law tree q e = (point : Point) (past : List Exchange) (e' : Enquiry) → Run tree point e past e' → Holds q tree point past

-- what was opened keeps the law
abbrev pub Lawful : {F : Type 0} → Tree → Result (Unit {0}) F → Enquiry → Type 0
Lawful tree (Ok u) e = Law tree (content e) e
Lawful tree (Err f) e = Unit {0}
