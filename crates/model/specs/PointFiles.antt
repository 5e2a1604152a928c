-- The two decision points that files give: their layout, and what they answer. Assumes nothing.
use Rattle.std.specs.Prelude.{◌≡◌, ℕ, ◌+◌, Bool, true, false, cond, ◌&&◌, ◌||◌, List, [], ◌∷◌, ◌++◌, map, length, Some, None, Ok, Option, Result, ◌==◌, nat_eq, nat_lt, slice_index_or}
use Rattle.model.specs.declared.item.Kind.TheVariants as kind
use Rattle.model.specs.declared.decision.Decision.{Decision}
use Rattle.model.specs.declared.decision.Decision.TheVariants.{Permit, Deny, Indeterminate, NotApplicable}
use Rattle.model.specs.declared.decision.Status.TheVariants as status
use Rattle.model.specs.Layout.{Refusal, Reader, ◌>>=◌, give, when, some, within, many, file, code, flags, bit, text, wide}
use Rattle.model.specs.Content.{Attribute, Element}
use Rattle.model.specs.Values.{same}
use Rattle.model.specs.Lists.{keep}
use Rattle.model.specs.Points.{Answer, answers, Point, PointFits}

-- the attributes of a category, in the request's order
abbrev pub in_category : ℕ → List Element → List Attribute
in_category c [] = []
in_category c (e ∷ es) = cond (e.category == c) (e.attributes ++ in_category c es) (in_category c es)

-- RULE POLICY

pub record Condition : Type 0 where
  -- an attribute to compare must be present
  pub required : Bool
  pub category : ℕ
  pub id : ℕ
  -- 1 is string
  pub type : ℕ
  pub issuer : Option (List ℕ)
  pub value : List ℕ

pub record Rule : Type 0 where
  pub effect : Decision
  pub conditions : List Condition

abbrev pub condition_fields : Reader Condition
condition_fields = do
  m ← flags 7
  category ← code 1 255
  id ← code 1 255
  type ← when (bit 0 m) 1 (code 2 255)
  issuer ← when (bit 1 m) None (some (text 1 64))
  value ← text 0 64
  give (record { required = bit 2 m; category = category; id = id; type = type; issuer = issuer; value = value })

abbrev pub one_condition : ℕ → List Condition → Reader Condition
one_condition i before = within kind.Condition i condition_fields

abbrev pub condition_list : Reader (List Condition)
condition_list = code 1 4 >>= many one_condition

abbrev pub effect_of : ℕ → Decision
effect_of b = cond (b == 1) Permit Deny

abbrev pub rule_fields : Reader Rule
rule_fields = do
  m ← flags 1
  effect ← code 1 2
  conditions ← when (bit 0 m) [] condition_list
  give (record { effect = effect_of effect; conditions = conditions })

abbrev pub one_rule : ℕ → List Rule → Reader Rule
one_rule i before = within kind.Rule i rule_fields

abbrev pub policy_fields : Reader (List Rule)
policy_fields = code 1 64 >>= many one_rule

abbrev pub read_policy : List ℕ → Result (List Rule) Refusal
read_policy = file policy_fields

pub data Truth : Type 0 where
  met : Truth
  unmet : Truth
  unknown : Truth

-- whether an issuer is the named one, if one is named
abbrev pub issued_by : Option (List ℕ) → Option (List ℕ) → Bool
issued_by None issuer = true
issued_by (Some t) None = false
issued_by (Some t) (Some u) = same t u

abbrev pub comparable : Condition → Attribute → Bool
comparable c a = a.id == c.id && a.type == c.type && issued_by c.issuer a.issuer

-- the attributes whose value a condition compares
abbrev pub compared : Condition → List Element → List Attribute
compared c es = keep (comparable c) (in_category c.category es)

abbrev pub some_has : List ℕ → List Attribute → Bool
some_has v [] = false
some_has v (a ∷ more) = same a.value v || some_has v more

abbrev pub has_none : List Attribute → Bool
has_none [] = true
has_none (a ∷ more) = false

-- met where a compared attribute has the value; unknown where there is none to compare and one must be; else unmet
abbrev pub truth : List Element → Condition → Truth
truth es c =
    let candidates = compared c es in
    cond (some_has c.value candidates) met (cond (has_none candidates && c.required) unknown unmet)

-- met where both are, unmet where one is, else unknown
abbrev pub both : Truth → Truth → Truth
both met t = t
both unmet t = unmet
both unknown met = unknown
both unknown unmet = unmet
both unknown unknown = unknown

abbrev pub all_of : List Truth → Truth
all_of [] = met
all_of (t ∷ ts) = both t (all_of ts)

-- what a rule of number n answers, or what the rules after it do
abbrev pub rule_answer : Rule → ℕ → Truth → Answer → Answer
rule_answer r n met later = answers r.effect status.Ok n
rule_answer r n unknown later = answers Indeterminate status.MissingAttribute n
rule_answer r n unmet later = later

-- the first rule that applies or is unknown, from number n on
abbrev pub first_rule : List Element → ℕ → List Rule → Answer
first_rule es n [] = answers NotApplicable status.Ok 0
first_rule es n (r ∷ rs) = rule_answer r n (all_of (map (truth es) r.conditions)) (first_rule es (n + 1) rs)

abbrev pub policy_point : List Rule → Point
policy_point rules es = first_rule es 0 rules

-- GRANTS

pub record Line : Type 0 where
  pub subject : List ℕ
  pub action : List ℕ
  pub resource : List ℕ

abbrev pub line_fields : Reader Line
line_fields = do
  subject ← text 1 64
  action ← text 1 64
  resource ← text 1 64
  give (record { subject = subject; action = action; resource = resource })

abbrev pub one_line : ℕ → List Line → Reader Line
one_line i before = within kind.Line i line_fields

abbrev pub grants_fields : Reader (List Line)
grants_fields = wide 0 1024 >>= many one_line

abbrev pub read_grants : List ℕ → Result (List Line) Refusal
read_grants = file grants_fields

abbrev pub value_of : Attribute → List ℕ
value_of a = a.value

-- the values of an id in a category
abbrev pub values : ℕ → ℕ → List Element → List (List ℕ)
values c i es = map value_of (keep (λ a. nat_eq a.id i) (in_category c es))

abbrev pub same_line : Line → Line → Bool
same_line l m = same l.subject m.subject && same l.action m.action && same l.resource m.resource

-- the first line that grants what is asked, from number n on
abbrev pub first_line : Line → ℕ → List Line → Answer
first_line asked n [] = answers Deny status.Ok 0
first_line asked n (l ∷ ls) = cond (same_line l asked) (answers Permit status.Ok n) (first_line asked (n + 1) ls)

abbrev pub missing : List (List ℕ) → Bool
missing vs = length vs == 0

abbrev pub repeated : List (List ℕ) → Bool
repeated vs = nat_lt 1 (length vs)

-- subject-id is 3 in category 2, action-id 4 in category 3, resource-id 1 in category 1
abbrev pub grants_point : List Line → Point
grants_point lines es =
    let s = values 2 3 es in
    let a = values 3 4 es in
    let r = values 1 1 es in
    cond (missing s || missing a || missing r) (answers NotApplicable status.Ok 0)
    (cond (repeated s || repeated a || repeated r) (answers Indeterminate status.ProcessingError 0)
    (first_line (record { subject = slice_index_or s 0 []; action = slice_index_or a 0 []; resource = slice_index_or r 0 [] }) 0 lines))

-- WHAT THEY KEEP

-- the decision points that files give answer as every decision point does
abbrev pub PointFilesFit : Type 0
PointFilesFit = ((bytes : List ℕ) (rules : List Rule) → read_policy bytes ≡ Ok rules → PointFits (policy_point rules))
    × ((bytes : List ℕ) (lines : List Line) → read_grants bytes ≡ Ok lines → PointFits (grants_point lines))
