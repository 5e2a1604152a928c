-- The decision points that files give answer as every decision point does. Assumes nothing.
use Rattle.std.proofs.Common.{◌≡◌, ℕ, ◌+◌, ◌≤◌, Bool, true, false, cond, ◌||◌, eqb, List, [], ◌∷◌, ◌++◌, map, length, get_or, Some, None, refl, ap, arith}
use Rattle.std.specs.List.{AllByRecursion}
use Rattle.std.proofs.ByRecursion.{All-push}
use Rattle.model.specs.declared.decision.Decision.{Decision}
use Rattle.model.specs.declared.decision.Decision.TheVariants.{Permit, Deny, Indeterminate, NotApplicable}
use Rattle.model.specs.declared.decision.Status.{Status}
use Rattle.model.specs.Numbers.{status_number, decision_number}
use Rattle.model.specs.Layout.{Reader, when, some, code, bit, text}
use Rattle.model.specs.Content.{Element}
use Rattle.model.specs.Spelling.{Between}
use Rattle.model.specs.Points.{Answer, answers, AnswerFits, PointFits}
use Rattle.model.specs.PointFiles.{Rule, condition_fields, one_condition, condition_list, effect_of, rule_fields, one_rule, policy_fields, Truth, truth, all_of, rule_answer, first_rule, policy_point, Line, line_fields, one_line, grants_fields, values, same_line, first_line, missing, repeated, grants_point, PointFilesFit}
use Rattle.model.proofs.Giving.{gives_give, gives_within, gives_when, gives_weaker}
use Rattle.model.proofs.Keeping.{Keeps, keeps_bind, keeps_flags, keeps_code, keeps_text, keeps_wide, AsMany, keeps_many, kept_file}
use Rattle.model.specs.declared.item.Kind.TheVariants as kind
use Rattle.model.specs.declared.decision.Status.TheVariants as status

-- ANSWERS

decided_fits : (d : Decision) (n : ℕ) → (d ≡ Indeterminate → ⊥) → n ≤ 65535 → AnswerFits (answers d status.Ok n)
decided_fits d n f l = record { status = (λ e. f, λ g. refl); place = l }

undecided_fits : (s : Status) (n : ℕ) → (s ≡ status.Ok → ⊥) → n ≤ 65535 → AnswerFits (answers Indeterminate s n)
undecided_fits s n f l = record { status = (λ e. absurd (f e), λ g. absurd (g refl)); place = l }

fits_cond : (b : Bool) (x y : Answer) → AnswerFits x → AnswerFits y → AnswerFits (cond b x y)
fits_cond true x y h k = h
fits_cond false x y h k = k

permit_decides : Permit ≡ Indeterminate → ⊥
permit_decides e = let z : decision_number Permit ≡ decision_number Indeterminate = ap decision_number e in omega arith

deny_decides : Deny ≡ Indeterminate → ⊥
deny_decides e = let z : decision_number Deny ≡ decision_number Indeterminate = ap decision_number e in omega arith

not_applicable_decides : NotApplicable ≡ Indeterminate → ⊥
not_applicable_decides e = let z : decision_number NotApplicable ≡ decision_number Indeterminate = ap decision_number e in omega arith

not_ok : (s : Status) → 1 ≤ status_number s → s ≡ status.Ok → ⊥
not_ok s l e = let z : status_number s ≡ 0 = ap status_number e in omega arith

-- RULE POLICY

-- its effect is a decision
abbrev Decides : Rule → Type 0
Decides r = r.effect ≡ Indeterminate → ⊥

effect_decides : (b : ℕ) → effect_of b ≡ Indeterminate → ⊥
effect_decides b = on (eqb b 1)
  where
    on : (t : Bool) → cond t Permit Deny ≡ Indeterminate → ⊥
    on true e = permit_decides e
    on false e = deny_decides e

module _ (es : List Element) where
  rule_fits : (r : Rule) (n : ℕ) → Decides r → n ≤ 65535 → (t : Truth) (later : Answer) → AnswerFits later → AnswerFits (rule_answer r n t later)
  rule_fits r n d l Truth.met later h = decided_fits r.effect n d l
  rule_fits r n d l Truth.unknown later h = undecided_fits status.MissingAttribute n (not_ok status.MissingAttribute (omega arith)) l
  rule_fits r n d l Truth.unmet later h = h

  rules_fit : (n : ℕ) (rs : List Rule) → AllByRecursion Decides rs → n + length rs ≤ 65536 → AnswerFits (first_rule es n rs)
  rules_fit n [] h l = decided_fits NotApplicable 0 not_applicable_decides (omega arith)
  rules_fit n (r ∷ rs) h l =
      rule_fits r n h.0 (omega arith) (all_of (map (truth es) r.conditions)) (first_rule es (n + 1) rs)
      (rules_fit (n + 1) rs h.1 (omega arith))

abbrev Any : {X : Type 0} → X → Type 0
Any x = Unit {0}

keeps_anything : {X : Type 0} (P : X → Type 0) {r : Reader X} → Keeps P r → Keeps Any r
keeps_anything P g = gives_weaker (λ w x. P x) (λ w x. Any x) (λ w x h. tt) g

keeps_condition : Keeps Any condition_fields
keeps_condition =
    keeps_bind (λ m. m ≤ 7) Any (keeps_flags 7) (λ m _.
    keeps_bind (Between 1 255) Any (keeps_code 1 255) (λ category _.
    keeps_bind (Between 1 255) Any (keeps_code 1 255) (λ id _.
    keeps_bind Any Any (keeps_optional (bit 0 m) 1 (code 2 255) (keeps_anything (Between 2 255) (keeps_code 2 255))) (λ type _.
    keeps_bind Any Any (keeps_optional (bit 1 m) None (some (text 1 64)) issuer_read) (λ issuer _.
    keeps_bind (λ t. Between 0 64 (length t)) Any (keeps_text 0 64) (λ value _.
    gives_give (λ w c. Any c) (record { required = bit 2 m; category = category; id = id; type = type; issuer = issuer; value = value }) tt))))))
  where
    keeps_optional : {X : Type 0} (b : Bool) (absent : X) (r : Reader X) → Keeps Any r → Keeps Any (when b absent r)
    keeps_optional b absent r g = gives_when (λ w x. Any x) b absent r (λ _. g) (λ _. tt)

    issuer_read : Keeps Any (some (text 1 64))
    issuer_read = keeps_bind (λ t. Between 1 64 (length t)) Any (keeps_text 1 64) (λ t _. gives_give (λ w o. Any o) (Some t) tt)

keeps_conditions : Keeps Any condition_list
keeps_conditions =
    keeps_bind (Between 1 4) Any (keeps_code 1 4) (λ n _.
    keeps_anything (AsMany Any one_condition n) (keeps_many Any one_condition
    (λ i xs _. gives_within (λ w c. Any (xs ++ c ∷ [])) kind.Condition i condition_fields (keeps_anything Any keeps_condition)) tt n))

keeps_rule : Keeps Decides rule_fields
keeps_rule =
    keeps_bind (λ m. m ≤ 1) Decides (keeps_flags 1) (λ m _.
    keeps_bind (Between 1 2) Decides (keeps_code 1 2) (λ effect _.
    keeps_bind Any Decides (gives_when (λ w x. Any x) (bit 0 m) [] condition_list (λ _. keeps_conditions) (λ _. tt)) (λ conditions _.
    gives_give (λ w r. Decides r) (record { effect = effect_of effect; conditions = conditions }) (effect_decides effect))))

abbrev FewRules : List Rule → Type 0
FewRules rs = AllByRecursion Decides rs × (length rs ≤ 64)

keeps_policy : Keeps FewRules policy_fields
keeps_policy =
    keeps_bind (Between 1 64) FewRules (keeps_code 1 64) (λ n h.
    gives_weaker (λ w rs. AsMany (AllByRecursion Decides) one_rule n rs) (λ w rs. FewRules rs) (λ w rs k. (k.0, omega (arith, h, k.1)))
    (keeps_many (AllByRecursion Decides) one_rule
    (λ i rs d. gives_within (λ w r. AllByRecursion Decides (rs ++ r ∷ [])) kind.Rule i rule_fields
    (gives_weaker (λ w r. Decides r) (λ w r. AllByRecursion Decides (rs ++ r ∷ [])) (λ w r k. All-push Decides rs r d k) keeps_rule)) tt n))

policy_fits : (rules : List Rule) → FewRules rules → PointFits (policy_point rules)
policy_fits rules h es = rules_fit es 0 rules h.0 (omega (arith, h.1))

-- GRANTS

lines_fit : (asked : Line) (n : ℕ) (ls : List Line) → n + length ls ≤ 65536 → AnswerFits (first_line asked n ls)
lines_fit asked n [] l = decided_fits Deny 0 deny_decides (omega arith)
lines_fit asked n (x ∷ xs) l =
    fits_cond (same_line x asked) (answers Permit status.Ok n) (first_line asked (n + 1) xs) (decided_fits Permit n permit_decides (omega arith))
    (lines_fit asked (n + 1) xs (omega arith))

abbrev Sized : List ℕ → Type 0
Sized t = Between 1 64 (length t)

keeps_line : Keeps Any line_fields
keeps_line =
    keeps_bind Sized Any (keeps_text 1 64) (λ s _.
    keeps_bind Sized Any (keeps_text 1 64) (λ a _.
    keeps_bind Sized Any (keeps_text 1 64) (λ r _.
    gives_give (λ w l. Any l) (record { subject = s; action = a; resource = r }) tt)))

abbrev FewLines : List Line → Type 0
FewLines ls = length ls ≤ 1024

keeps_grants : Keeps FewLines grants_fields
keeps_grants =
    keeps_bind (λ n. n ≤ 1024) FewLines (keeps_wide 0 1024) (λ n h.
    gives_weaker (λ w ls. AsMany Any one_line n ls) (λ w ls. FewLines ls) (λ w ls k. omega (arith, k.1))
    (keeps_many Any one_line (λ i ls _. gives_within (λ w l. Any (ls ++ l ∷ [])) kind.Line i line_fields (keeps_anything Any keeps_line)) tt n))

grants_fit : (lines : List Line) → FewLines lines → PointFits (grants_point lines)
grants_fit lines h es =
    let s = values 2 3 es in
    let a = values 3 4 es in
    let r = values 1 1 es in
    let asked : Line = record { subject = get_or s 0 []; action = get_or a 0 []; resource = get_or r 0 [] } in
    let lacking = answers NotApplicable status.Ok 0 in
    let twice = answers Indeterminate status.ProcessingError 0 in
    let first = first_line asked 0 lines in
    fits_cond (missing s || missing a || missing r) lacking (cond (repeated s || repeated a || repeated r) twice first)
    (decided_fits NotApplicable 0 not_applicable_decides (omega arith))
    (fits_cond (repeated s || repeated a || repeated r) twice first
    (undecided_fits status.ProcessingError 0 (not_ok status.ProcessingError (omega arith)) (omega arith))
    (lines_fit asked 0 lines (omega arith)))

-- BOTH

pub point_files_fit : PointFilesFit
point_files_fit = (
  λ bytes rules e. policy_fits rules (kept_file FewRules policy_fields keeps_policy bytes rules e),
  λ bytes lines e. grants_fit lines (kept_file FewLines grants_fields keeps_grants bytes lines e),
)
