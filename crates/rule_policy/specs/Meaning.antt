-- What a rule policy answers, as relations over the content alone: nothing here is shared with the functions that compute it. Assumes nothing.
use Rattle.std.specs.Prelude.{◌≡◌, ℕ, ◌<◌, true, ◌⊎◌, ◌↔◌, List, [], ◌∷◌, Some, None, Option}
use Rattle.std.specs.List.{AllByRecursion}
use Rattle.model.specs.declared.decision.Decision.TheVariants as decision
use Rattle.model.specs.declared.decision.Status.TheVariants as status
use Rattle.model.specs.Content.{Attribute, Element}
use Rattle.model.specs.Lists.{At}
use Rattle.model.specs.Points.{Answer, answers}
use Rattle.model.specs.PointFiles.{Condition, Rule, policy_point}

-- one of them has P
abbrev pub One : {A : Type 0} → (A → Type 0) → List A → Type 0
One P [] = ⊥
One P (x ∷ xs) = P x ⊎ One P xs

-- CONDITIONS

-- the issuer is the named one, if one is named
abbrev pub Issued : Option (List ℕ) → Option (List ℕ) → Type 0
Issued None issuer = Unit {0}
Issued (Some t) issuer = issuer ≡ Some t

-- an attribute has a condition's id, type and named issuer
pub record Compares (c : Condition) (a : Attribute) : Type 0 where
  pub id : a.id ≡ c.id
  pub type : a.type ≡ c.type
  pub issuer : Issued c.issuer a.issuer

-- and its value
pub record Equals (c : Condition) (a : Attribute) : Type 0 where
  pub compares : Compares c a
  pub value : a.value ≡ c.value

-- an attribute of that category has P
pub record HasOne (k : ℕ) (P : Attribute → Type 0) (e : Element) : Type 0 where
  pub category : e.category ≡ k
  pub attribute : One P e.attributes

abbrev pub Met : List Element → Condition → Type 0
Met es c = One (HasOne c.category (Equals c)) es

-- none can be compared, and one must be present
pub record Indeterminate (es : List Element) (c : Condition) : Type 0 where
  pub none : One (HasOne c.category (Compares c)) es → ⊥
  pub required : c.required ≡ true

pub record False (es : List Element) (c : Condition) : Type 0 where
  pub not_met : Met es c → ⊥
  pub determinate : Indeterminate es c → ⊥

-- RULES

abbrev pub Applies : List Element → Rule → Type 0
Applies es r = AllByRecursion (Met es) r.conditions

-- one condition is false, whatever the others are
abbrev pub Fails : List Element → Rule → Type 0
Fails es r = One (False es) r.conditions

pub record Open (es : List Element) (r : Rule) : Type 0 where
  pub none_false : Fails es r → ⊥
  pub one_open : One (Indeterminate es) r.conditions

-- THE POLICY

-- rule n is r, and every earlier one has a false condition
pub record Reached (es : List Element) (rules : List Rule) (n : ℕ) (r : Rule) : Type 0 where
  pub rule : At n r rules
  pub earlier : (m : ℕ) (q : Rule) → m < n → At m q rules → Fails es q

pub data Gives (es : List Element) (rules : List Rule) : Answer → Type 0 where
  by_rule : {n : ℕ} {r : Rule} → Reached es rules n r → Applies es r → Gives es rules (answers r.effect status.Ok n)
  by_open : {n : ℕ} {r : Rule} → Reached es rules n r → Open es r → Gives es rules (answers decision.Indeterminate status.MissingAttribute n)
  by_none : ((m : ℕ) (q : Rule) → At m q rules → Fails es q) → Gives es rules (answers decision.NotApplicable status.Ok 0)

-- the answer is that of the first rule that applies or is Indeterminate, and only that
abbrev pub FirstDecidingRule : Type 0
FirstDecidingRule = (rules : List Rule) (es : List Element) (a : Answer) → (policy_point rules es ≡ a) ↔ Gives es rules a
