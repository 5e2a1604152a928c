-- Rule policies and grants are accepted exactly where they are the spelling of a well-formed content. Assumes nothing.
use Rattle.std.proofs.Common.{◌≡◌, ℕ, zero, suc, ◌≤◌, Bool, true, false, cond, eqb, ◌⊎◌, List, [], ◌∷◌, ◌++◌, length, Option, sym, refl, ap, ◌∙◌, subst, ap₂, inl, inr, append-nil, arith}
use Rattle.std.specs.List.{AllByRecursion}
use Rattle.std.proofs.ByRecursion.{All-push}
use Rattle.std.proofs.lemmas.Bool.{eqb-true, eqb-false}
use Rattle.model.specs.declared.decision.Decision.{Decision}
use Rattle.model.specs.declared.decision.Decision.TheVariants.{Permit, Deny}
use Rattle.model.specs.declared.item.Kind.TheVariants as kind
use Rattle.model.specs.Layout.{◌>>=◌, give, when, bit, text}
use Rattle.model.specs.Spelling.{Between, flag, is_there, is_any, spell_some, spell_list, spell_text, spell_code}
use Rattle.model.specs.PointFiles.{Condition, Rule, Line, condition_fields, one_condition, condition_list, effect_of, rule_fields, one_rule, policy_fields, read_policy, line_fields, one_line, grants_fields, read_grants}
use Rattle.model.specs.PointSpelling.{ConditionFits, RuleFits, PolicyFits, LineFits, GrantsFit, typed_condition, spell_condition, spell_effect, spell_rule, spell_policy, spell_line, spell_grants, PolicySpelling, PointsAcceptedExactly}
use Rattle.model.proofs.Giving.{Gives, gives_give, gives_within, gives_weaker, gives_bind, gives_code, gives_flags, gives_text, gives_list, accepted}
use Rattle.model.proofs.ReadingBack.{Reads, reads_give, reads_within, reads_bind, reads_map, reads_code, reads_flags, reads_text, reads_list, back}
use Rattle.model.proofs.Spelled.{of_bits, sum_of_bits, bits, TypeRead, IssuerRead, gives_type, gives_issuer, reads_type, reads_issuer, all_at, spell_any, AnyRead, gives_any, reads_any}
use Rattle.model.proofs.TreeSpelled.{Spelled, gives_many, reads_many}

-- CONDITIONS

abbrev ConditionRead : List ℕ → Condition → Type 0
ConditionRead w c = ConditionFits c × (w ≡ spell_condition c)

-- what the fields of a condition took is how it is spelled
module _ (m category id type : ℕ) (issuer : Option (List ℕ)) (value w₁ w₂ w₃ w₄ w₅ w₆ : List ℕ) where
  abbrev made : Condition
  made = record { required = bit 2 m; category = category; id = id; type = type; issuer = issuer; value = value }

  condition_spelled : w₁ ≡ m ∷ [] → m ≤ 7 → w₂ ≡ category ∷ [] → w₃ ≡ id ∷ [] → TypeRead (bit 0 m) w₄ type → IssuerRead (bit 1 m) w₅ issuer → w₆ ≡ spell_text value
      → w₁ ++ (w₂ ++ (w₃ ++ (w₄ ++ (w₅ ++ (w₆ ++ []))))) ≡ spell_condition made
  condition_spelled e₁ h e₂ e₃ t i e₆ =
      let last = cond (typed_condition made) (spell_code type) [] ++ (spell_some spell_text issuer ++ spell_text value) in
      let rest : w₄ ++ (w₅ ++ (w₆ ++ [])) ≡ last =
      ap₂ (λ a b. a ++ b) (t.spelled ∙ ap (λ c. cond c (spell_code type) []) t.there) (ap₂ (λ a b. a ++ b) i.spelled (append-nil w₆ ∙ e₆)) in
      let map_is : m ≡ of_bits (typed_condition made) (is_there issuer) (bit 2 m) = sum_of_bits m h ∙ ap₂ (λ a b. of_bits a b (bit 2 m)) t.there i.there in
      ap₂ (λ a b. a ++ b) e₁ (ap₂ (λ a b. a ++ b) e₂ (ap₂ (λ a b. a ++ b) e₃ rest)) ∙ ap (λ n. n ∷ category ∷ id ∷ last) map_is

gives_condition : Gives condition_fields ConditionRead
gives_condition =
    let S = ConditionRead in
    gives_bind (λ w m. (w ≡ m ∷ []) × (m ≤ 7)) S (gives_flags 7) (λ m w₁ h₁.
    gives_bind (λ w n. (w ≡ n ∷ []) × Between 1 255 n) (λ v c. S (w₁ ++ v) c) (gives_code 1 255) (λ category w₂ h₂.
    gives_bind (λ w n. (w ≡ n ∷ []) × Between 1 255 n) (λ v c. S (w₁ ++ (w₂ ++ v)) c) (gives_code 1 255) (λ id w₃ h₃.
    gives_bind (TypeRead (bit 0 m)) (λ v c. S (w₁ ++ (w₂ ++ (w₃ ++ v))) c) (gives_type (bit 0 m)) (λ type w₄ h₄.
    gives_bind (IssuerRead (bit 1 m)) (λ v c. S (w₁ ++ (w₂ ++ (w₃ ++ (w₄ ++ v)))) c) (gives_issuer (bit 1 m)) (λ issuer w₅ h₅.
    gives_bind (λ w t. (w ≡ spell_text t) × Between 0 64 (length t)) (λ v c. S (w₁ ++ (w₂ ++ (w₃ ++ (w₄ ++ (w₅ ++ v))))) c) (gives_text 0 64) (λ value w₆ h₆.
    gives_give (λ v c. S (w₁ ++ (w₂ ++ (w₃ ++ (w₄ ++ (w₅ ++ (w₆ ++ v)))))) c) (made m category id type issuer value w₁ w₂ w₃ w₄ w₅ w₆) (
      record { category = h₂.1; id = h₃.1; type = h₄.fits; issuer = h₅.fits; value = h₆.1.1 },
      condition_spelled m category id type issuer value w₁ w₂ w₃ w₄ w₅ w₆ h₁.0 h₁.1 h₂.0 h₃.0 h₄ h₅ h₆.0,
    )))))))

reads_condition : (c : Condition) → ConditionFits c → Reads condition_fields (spell_condition c) c
reads_condition c f =
    let m = of_bits (typed_condition c) (is_there c.issuer) c.required in
    let k = bits (typed_condition c) (is_there c.issuer) c.required in
    let w₆ = spell_text c.value in
    let w₅ = spell_some spell_text c.issuer in
    let w₄ = cond (typed_condition c) (spell_code c.type) [] in
    reads_bind _ (m ∷ []) (c.category ∷ c.id ∷ (w₄ ++ (w₅ ++ w₆))) m (reads_flags 7 m k.small)
    (reads_bind _ (c.category ∷ []) (c.id ∷ (w₄ ++ (w₅ ++ w₆))) c.category (reads_code 1 255 c.category f.category)
    (reads_bind _ (c.id ∷ []) (w₄ ++ (w₅ ++ w₆)) c.id (reads_code 1 255 c.id f.id)
    (reads_bind _ w₄ (w₅ ++ w₆) c.type (reads_type (bit 0 m) c.type k.first f.type)
    (reads_bind _ w₅ w₆ c.issuer (reads_issuer (bit 1 m) c.issuer k.second f.issuer)
    (subst (λ w. Reads (text 0 64 >>= λ value. give (record { required = bit 2 m; category = c.category; id = c.id; type = c.type; issuer = c.issuer; value = value })) w c) (append-nil w₆)
    (reads_bind _ w₆ [] c.value (reads_text 0 64 c.value (omega arith, f.value))
    (reads_give (record { required = bit 2 m; category = c.category; id = c.id; type = c.type; issuer = c.issuer; value = c.value }) c
    (ap (λ (b : Bool). record { required = b; category = c.category; id = c.id; type = c.type; issuer = c.issuer; value = c.value }) k.third))))))))

-- the conditions of a rule; their list stands exactly where there is one
gives_conditions : Gives condition_list (λ w ys. AllByRecursion ConditionFits ys × Between 1 4 (length ys) × (w ≡ spell_list spell_condition ys))
gives_conditions = gives_list one_condition spell_condition (AllByRecursion ConditionFits)
    (λ i xs g. gives_weaker ConditionRead (λ w x. AllByRecursion ConditionFits (xs ++ x ∷ []) × (w ≡ spell_condition x)) (λ w x h. (All-push ConditionFits xs x g h.0, h.1)) (gives_within ConditionRead kind.Condition i condition_fields gives_condition))
    1 4 tt

reads_conditions : (xs : List Condition) → Between 1 4 (length xs) → AllByRecursion ConditionFits xs → Reads condition_list (spell_list spell_condition xs) xs
reads_conditions xs h g = reads_list one_condition spell_condition (AllByRecursion ConditionFits) (λ i ys y zs k. reads_within kind.Condition i condition_fields (spell_condition y) y (reads_condition y (all_at ConditionFits ys y zs k))) 1 4 xs h g

-- RULES

abbrev EffectIs : Decision → Type 0
EffectIs d = (d ≡ Permit) ⊎ (d ≡ Deny)

-- the byte of an effect
effect_read : (n : ℕ) → Between 1 2 n → EffectIs (effect_of n) × (n ≡ spell_effect (effect_of n))
effect_read n h = go (eqb n 1) refl
  where
    go : (b : Bool) → eqb n 1 ≡ b → EffectIs (cond b Permit Deny) × (n ≡ spell_effect (cond b Permit Deny))
    go true e = (inl refl, eqb-true n 1 e)
    go false e = let ne : n ≡ 1 → ⊥ = eqb-false n 1 e in (inr refl, omega (arith, h))

effect_back : (d : Decision) → EffectIs d → Between 1 2 (spell_effect d) × (effect_of (spell_effect d) ≡ d)
effect_back d (inl e) = subst (λ c. Between 1 2 (spell_effect c) × (effect_of (spell_effect c) ≡ c)) (sym e) ((omega arith, omega arith), refl)
effect_back d (inr e) = subst (λ c. Between 1 2 (spell_effect c) × (effect_of (spell_effect c) ≡ c)) (sym e) ((omega arith, omega arith), refl)

one_bit : (m : ℕ) → m ≤ 1 → m ≡ flag (bit 0 m) 1
one_bit zero h = refl
one_bit (suc zero) h = refl
one_bit (suc (suc m)) h = absurd (omega arith)

bit_of : (b : Bool) → (bit 0 (flag b 1) ≡ b) × (flag b 1 ≤ 1)
bit_of true = (refl, omega arith)
bit_of false = (refl, omega arith)

abbrev ConditionsRead : Bool → List ℕ → List Condition → Type 0
ConditionsRead = AnyRead condition_list ConditionFits spell_condition 4

abbrev spell_conditions : List Condition → List ℕ
spell_conditions = spell_any condition_list ConditionFits spell_condition 4

abbrev RuleRead : List ℕ → Rule → Type 0
RuleRead w r = RuleFits r × (w ≡ spell_rule r)

module _ (m effect : ℕ) (conditions : List Condition) (w₁ w₂ w₃ : List ℕ) where
  rule_spelled : w₁ ≡ m ∷ [] → m ≤ 1 → w₂ ≡ effect ∷ [] → effect ≡ spell_effect (effect_of effect) → ConditionsRead (bit 0 m) w₃ conditions
      → w₁ ++ (w₂ ++ (w₃ ++ [])) ≡ spell_rule (record { effect = effect_of effect; conditions = conditions })
  rule_spelled e₁ h e₂ e c =
      let map_is : m ≡ flag (is_any conditions) 1 = one_bit m h ∙ ap (λ b. flag b 1) c.there in
      ap₂ (λ x y. x ++ y) e₁ (ap₂ (λ x y. x ++ y) e₂ (append-nil w₃ ∙ c.spelled))
      ∙ ap₂ (λ (n k : ℕ). n ∷ k ∷ spell_conditions conditions) map_is e

gives_rule : Gives rule_fields RuleRead
gives_rule =
    let S = RuleRead in
    gives_bind (λ w m. (w ≡ m ∷ []) × (m ≤ 1)) S (gives_flags 1) (λ m w₁ h₁.
    gives_bind (λ w n. (w ≡ n ∷ []) × Between 1 2 n) (λ v r. S (w₁ ++ v) r) (gives_code 1 2) (λ effect w₂ h₂.
    gives_bind (ConditionsRead (bit 0 m)) (λ v r. S (w₁ ++ (w₂ ++ v)) r) (gives_any condition_list ConditionFits spell_condition 4 gives_conditions (bit 0 m)) (λ conditions w₃ h₃.
    gives_give (λ v r. S (w₁ ++ (w₂ ++ (w₃ ++ v))) r) (record { effect = effect_of effect; conditions = conditions }) (
      record { effect = (effect_read effect h₂.1).0; few = h₃.few; conditions = h₃.fit },
      rule_spelled m effect conditions w₁ w₂ w₃ h₁.0 h₁.1 h₂.0 (effect_read effect h₂.1).1 h₃,
    ))))

reads_rule : (r : Rule) → RuleFits r → Reads rule_fields (spell_rule r) r
reads_rule r f =
    let m = flag (is_any r.conditions) 1 in
    let k = bit_of (is_any r.conditions) in
    let n = spell_effect r.effect in
    let e = effect_back r.effect f.effect in
    let w₃ = spell_conditions r.conditions in
    let made : Decision → List Condition → Rule = λ d cs. record { effect = d; conditions = cs } in
    let read : Reads (when (bit 0 m) [] condition_list >>= λ cs. give (made (effect_of n) cs)) w₃ (made (effect_of n) r.conditions) =
    reads_map (made (effect_of n)) w₃ r.conditions (reads_any condition_list ConditionFits spell_condition 4 reads_conditions (bit 0 m) r.conditions k.0 f.few f.conditions) in
    reads_bind _ (m ∷ []) (n ∷ w₃) m (reads_flags 1 m k.1)
    (reads_bind _ (n ∷ []) w₃ n (reads_code 1 2 n e.0)
    (subst (λ d. Reads (when (bit 0 m) [] condition_list >>= λ cs. give (made (effect_of n) cs)) w₃ (made d r.conditions)) e.1 read))

-- THE POLICY

gives_policy : Gives policy_fields (λ w rules. PolicySpelling w rules)
gives_policy =
    gives_weaker (λ w ys. AllByRecursion RuleFits ys × Between 1 64 (length ys) × (w ≡ spell_policy ys)) PolicySpelling (λ w ys h. (record { as_many = h.1; each = h.0 }, h.2))
    (gives_list one_rule spell_rule (AllByRecursion RuleFits)
    (λ i xs g. gives_weaker RuleRead (λ w x. AllByRecursion RuleFits (xs ++ x ∷ []) × (w ≡ spell_rule x)) (λ w x h. (All-push RuleFits xs x g h.0, h.1)) (gives_within RuleRead kind.Rule i rule_fields gives_rule))
    1 64 tt)

reads_policy : (rules : List Rule) → PolicyFits rules → Reads policy_fields (spell_policy rules) rules
reads_policy rules f = reads_list one_rule spell_rule (AllByRecursion RuleFits) (λ i ys y zs k. reads_within kind.Rule i rule_fields (spell_rule y) y (reads_rule y (all_at RuleFits ys y zs k))) 1 64 rules f.as_many f.each

-- GRANTS

abbrev LineRead : List ℕ → Line → Type 0
LineRead w l = LineFits l × (w ≡ spell_line l)

gives_line : Gives line_fields LineRead
gives_line =
    let S = LineRead in
    let T : List ℕ → List ℕ → Type 0 = λ w t. (w ≡ spell_text t) × Between 1 64 (length t) in
    gives_bind T S (gives_text 1 64) (λ subject w₁ h₁.
    gives_bind T (λ v l. S (w₁ ++ v) l) (gives_text 1 64) (λ action w₂ h₂.
    gives_bind T (λ v l. S (w₁ ++ (w₂ ++ v)) l) (gives_text 1 64) (λ resource w₃ h₃.
    gives_give (λ v l. S (w₁ ++ (w₂ ++ (w₃ ++ v))) l) (record { subject = subject; action = action; resource = resource }) (
      record { subject = h₁.1; action = h₂.1; resource = h₃.1 },
      ap₂ (λ x y. x ++ y) h₁.0 (ap₂ (λ x y. x ++ y) h₂.0 (append-nil w₃ ∙ h₃.0)),
    ))))

reads_line : (l : Line) → LineFits l → Reads line_fields (spell_line l) l
reads_line l f =
    let s = spell_text l.subject in
    let a = spell_text l.action in
    let r = spell_text l.resource in
    reads_bind _ s (a ++ r) l.subject (reads_text 1 64 l.subject f.subject)
    (reads_bind _ a r l.action (reads_text 1 64 l.action f.action)
    (reads_map (λ t. record { subject = l.subject; action = l.action; resource = t }) r l.resource (reads_text 1 64 l.resource f.resource)))

gives_grants : Gives grants_fields (λ w lines. AllByRecursion LineFits lines × (length lines ≤ 1024) × Spelled spell_grants w lines)
gives_grants = gives_many one_line spell_line (AllByRecursion LineFits)
    (λ i xs g. gives_weaker LineRead (λ w l. AllByRecursion LineFits (xs ++ l ∷ []) × Spelled spell_line w l) (λ w l h. (All-push LineFits xs l g h.0, λ _. h.1)) (gives_within LineRead kind.Line i line_fields gives_line))
    1024 tt

reads_grants : (lines : List Line) → GrantsFit lines → Reads grants_fields (spell_grants lines) lines
reads_grants lines f = reads_many one_line spell_line (AllByRecursion LineFits) (λ i xs l zs k. reads_within kind.Line i line_fields (spell_line l) l (reads_line l (all_at LineFits xs l zs k))) 1024 lines f.few f.each

-- WHOLE FILES

pub points_accepted_exactly : PointsAcceptedExactly
points_accepted_exactly = (
  λ bytes rules. (accepted PolicySpelling policy_fields gives_policy bytes rules, λ s. ap read_policy s.1 ∙ back policy_fields (spell_policy rules) rules (reads_policy rules s.0)),
  λ bytes lines b. (
    λ e. let h = accepted (λ w ls. AllByRecursion LineFits ls × (length ls ≤ 1024) × Spelled spell_grants w ls) grants_fields gives_grants bytes lines e in (record { few = h.1; each = h.0 }, h.2 b),
    λ s. ap read_grants s.1 ∙ back grants_fields (spell_grants lines) lines (reads_grants lines s.0),
  ),
)
