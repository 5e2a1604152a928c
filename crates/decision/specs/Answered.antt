-- What an answer of the code says, and what was asked. Assumes nothing.
use Rattle.std.specs.Prelude.{ℕ, List, map, Some, None, Option}
use Rattle.std.specs.Borrow.{Bor}
use Rattle.model.specs.declared.decision.Decision.{Decision}
use Rattle.model.specs.declared.decision.Status.{Status}
use Rattle.model.specs.Content.{Element}
use Rattle.model.specs.Points.{Answer, answers}
use Rattle.model.specs.Rows.{for_node}
use Rattle.single.specs.declared.single.SingleRequest.{SingleRequest}
use Rattle.single.specs.Single.{chosen_of, content}

abbrev pub answered : Decision × Status × ℕ → Answer
answered a = answers a.0 a.1 a.2

-- the content for the node of that name, or as it stands
abbrev pub asked : SingleRequest → Option (Bor (List ℕ)) → List Element
asked s None = content s
asked s (Some t) = map (for_node t.now) (chosen_of s)
