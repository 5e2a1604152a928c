-- The rule policies and the grants that files can hold, and the bytes that hold each. Assumes nothing.
use Rattle.std.specs.Prelude.{◌≡◌, ℕ, ◌+◌, ◌≤◌, Bool, cond, not, ◌⊎◌, ◌↔◌, List, [], ◌∷◌, ◌++◌, length, Ok, ◌==◌}
use Rattle.std.specs.List.{AllByRecursion}
use Rattle.model.specs.declared.decision.Decision.{Decision}
use Rattle.model.specs.declared.decision.Decision.TheVariants.{Permit, Deny, Indeterminate, NotApplicable}
use Rattle.model.specs.Spelling.{Between, WhenSome, flag, is_there, is_any, spell_some, spell_list, spell_text, spell_code}
use Rattle.model.specs.TreeSpelling.{Bytes, spell_many}
use Rattle.model.specs.PointFiles.{Condition, Rule, Line, read_policy, read_grants}

-- WELL-FORMED CONTENTS

pub record ConditionFits (c : Condition) : Type 0 where
  pub category : Between 1 255 c.category
  pub id : Between 1 255 c.id
  pub type : Between 1 255 c.type
  pub issuer : WhenSome (λ t. Between 1 64 (length t)) c.issuer
  pub value : length c.value ≤ 64

pub record RuleFits (r : Rule) : Type 0 where
  pub effect : (r.effect ≡ Permit) ⊎ (r.effect ≡ Deny)
  pub few : length r.conditions ≤ 4
  pub conditions : AllByRecursion ConditionFits r.conditions

pub record PolicyFits (rules : List Rule) : Type 0 where
  pub as_many : Between 1 64 (length rules)
  pub each : AllByRecursion RuleFits rules

pub record LineFits (l : Line) : Type 0 where
  pub subject : Between 1 64 (length l.subject)
  pub action : Between 1 64 (length l.action)
  pub resource : Between 1 64 (length l.resource)

pub record GrantsFit (lines : List Line) : Type 0 where
  pub few : length lines ≤ 1024
  pub each : AllByRecursion LineFits lines

-- THEIR SPELLING

-- a type other than string
abbrev pub typed_condition : Condition → Bool
typed_condition c = not (c.type == 1)

abbrev pub spell_condition : Condition → List ℕ
spell_condition c =
    (flag (typed_condition c) 1 + flag (is_there c.issuer) 2 + flag c.required 4) ∷ c.category ∷ c.id
    ∷ (cond (typed_condition c) (spell_code c.type) [] ++ (spell_some spell_text c.issuer ++ spell_text c.value))

-- no rule has one of the last two
abbrev pub spell_effect : Decision → ℕ
spell_effect Permit = 1
spell_effect Deny = 2
spell_effect Indeterminate = 0
spell_effect NotApplicable = 0

abbrev pub spell_rule : Rule → List ℕ
spell_rule r = flag (is_any r.conditions) 1 ∷ spell_effect r.effect ∷ cond (is_any r.conditions) (spell_list spell_condition r.conditions) []

abbrev pub spell_policy : List Rule → List ℕ
spell_policy rules = spell_list spell_rule rules

abbrev pub spell_line : Line → List ℕ
spell_line l = spell_text l.subject ++ (spell_text l.action ++ spell_text l.resource)

abbrev pub spell_grants : List Line → List ℕ
spell_grants lines = spell_many spell_line lines

-- the bytes are the spelling of this well-formed content
abbrev pub PolicySpelling : List ℕ → List Rule → Type 0
PolicySpelling bytes rules = PolicyFits rules × (bytes ≡ spell_policy rules)

abbrev pub GrantsSpelling : List ℕ → List Line → Type 0
GrantsSpelling bytes lines = GrantsFit lines × (bytes ≡ spell_grants lines)

-- files are accepted exactly where they are the spelling of a well-formed content, and that is the one read
abbrev pub PointsAcceptedExactly : Type 0
PointsAcceptedExactly = ((bytes : List ℕ) (rules : List Rule) → (read_policy bytes ≡ Ok rules) ↔ PolicySpelling bytes rules)
    × ((bytes : List ℕ) (lines : List Line) → Bytes bytes → (read_grants bytes ≡ Ok lines) ↔ GrantsSpelling bytes lines)
