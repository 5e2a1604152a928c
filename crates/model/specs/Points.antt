-- What a decision point means: one answer for each single request, which is a list of elements without tags. Assumes nothing.
use Rattle.std.specs.Prelude.{◌≡◌, ℕ, ◌≤◌, ◌↔◌, List, ◌≢◌}
use Rattle.model.specs.declared.decision.Decision.{Decision}
use Rattle.model.specs.declared.decision.Decision.TheVariants.{Indeterminate}
use Rattle.model.specs.declared.decision.Status.{Status}
use Rattle.model.specs.declared.decision.Status.TheVariants as status
use Rattle.model.specs.Content.{Element}

pub record Answer : Type 0 where
  pub decision : Decision
  pub status : Status
  pub place : ℕ

abbrev pub answers : Decision → Status → ℕ → Answer
answers d s p = record { decision = d; status = s; place = p }

abbrev pub Point : Type 0
Point = List Element → Answer

-- what every decision point keeps: the status is ok exactly where the decision is not Indeterminate, and the place is of two bytes
pub record AnswerFits (a : Answer) : Type 0 where
  pub status : (a.status ≡ status.Ok) ↔ (a.decision ≢ Indeterminate)
  pub place : a.place ≤ 65535

abbrev pub PointFits : Point → Type 0
PointFits point = (es : List Element) → AnswerFits (point es)
