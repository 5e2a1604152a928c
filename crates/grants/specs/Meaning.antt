-- What grants answer, as relations over the content and the lines. Assumes nothing.
use Rattle.std.specs.Prelude.{◌≡◌, ℕ, ◌<◌, ◌≤◌, ◌⊎◌, ◌↔◌, List, [], ◌∷◌, length}
use Rattle.model.specs.declared.decision.Decision.TheVariants as decision
use Rattle.model.specs.declared.decision.Status.TheVariants as status
use Rattle.model.specs.Content.{Element}
use Rattle.model.specs.Lists.{At}
use Rattle.model.specs.Points.{Answer, answers}
use Rattle.model.specs.PointFiles.{Line, values, grants_point}

-- one of the three lists of values has P: subject-ids of the subject, action-ids of the action, resource-ids of the resource
abbrev pub OneList : (List (List ℕ) → Type 0) → List Element → Type 0
OneList P es = P (values 2 3 es) ⊎ (P (values 3 4 es) ⊎ P (values 1 1 es))

abbrev pub Lacks : List Element → Type 0
Lacks es = OneList (λ vs. vs ≡ []) es

abbrev pub Repeats : List Element → Type 0
Repeats es = OneList (λ vs. 2 ≤ length vs) es

-- the request has each once, and they are those of the line
pub record Asks (es : List Element) (l : Line) : Type 0 where
  pub subject : values 2 3 es ≡ l.subject ∷ []
  pub action : values 3 4 es ≡ l.action ∷ []
  pub resource : values 1 1 es ≡ l.resource ∷ []

pub data Gives (es : List Element) (lines : List Line) : Answer → Type 0 where
  by_lack : Lacks es → Gives es lines (answers decision.NotApplicable status.Ok 0)
  by_repeat : (Lacks es → ⊥) → Repeats es → Gives es lines (answers decision.Indeterminate status.ProcessingError 0)
  -- line n is the one that is asked for, and no earlier one is
  by_line : {n : ℕ} {l : Line} → Asks es l → At n l lines → ((m : ℕ) → m < n → At m l lines → ⊥) → Gives es lines (answers decision.Permit status.Ok n)
  by_none : {l : Line} → Asks es l → ((m : ℕ) → At m l lines → ⊥) → Gives es lines (answers decision.Deny status.Ok 0)

-- grants permit at line n exactly where it is the first that has what is asked for
abbrev pub FirstLine : Type 0
FirstLine = (lines : List Line) (es : List Element) (a : Answer) → (grants_point lines es ≡ a) ↔ Gives es lines a
