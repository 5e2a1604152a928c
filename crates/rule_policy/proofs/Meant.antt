-- The computed answer is the one that the relations give, and only that. Assumes nothing.
use Rattle.std.proofs.Common.{◌≡◌, ℕ, zero, suc, ◌+◌, ◌<◌, Bool, true, false, cond, ◌&&◌, eqb, ◌⊎◌, List, [], ◌∷◌, ◌++◌, map, length, Some, None, Option, sym, refl, ap, ◌∙◌, subst, inl, inr, ⊎_elim, add-zero, zero-add, arith}
use Rattle.std.specs.List.{AllByRecursion}
use Rattle.std.proofs.lemmas.List.{append-nil, append_assoc, length_push}
use Rattle.std.proofs.lemmas.Bool.{and_parts, and_from, or_cases, or_left, or_right, cond-true, eqb-true, eq-eqb, both_ways}
use Rattle.model.specs.declared.decision.Decision.TheVariants as decision
use Rattle.model.specs.declared.decision.Status.TheVariants as status
use Rattle.model.specs.Content.{Attribute, Element}
use Rattle.model.specs.Lists.{At, first, later, keep}
use Rattle.model.specs.Values.{same}
use Rattle.model.specs.Points.{Answer, answers}
use Rattle.model.specs.PointFiles.{Condition, Rule, Truth, met, unmet, unknown, issued_by, comparable, in_category, some_has, has_none, truth, both, all_of, rule_answer, first_rule, policy_point}
use Rattle.single.proofs.Values.{same_is, same_self}
use Rattle.rule_policy.specs.Meaning.{One, Issued, Compares, Equals, HasOne, Met, Indeterminate, False, Fails, Gives, by_rule, by_open, by_none, FirstDecidingRule}

-- ONE OF A LIST

module _ {A : Type 0} (P : A → Type 0) where
  one_left : (xs ys : List A) → One P xs → One P (xs ++ ys)
  one_left [] ys o = absurd o
  one_left (x ∷ xs) ys o = ⊎_elim inl (λ r. inr (one_left xs ys r)) o

  one_right : (xs ys : List A) → One P ys → One P (xs ++ ys)
  one_right [] ys o = o
  one_right (x ∷ xs) ys o = inr (one_right xs ys o)

  one_split : (xs ys : List A) → One P (xs ++ ys) → One P xs ⊎ One P ys
  one_split [] ys o = inr o
  one_split (x ∷ xs) ys o = ⊎_elim (λ p. inl (inl p)) (λ r. ⊎_elim (λ l. inl (inr l)) inr (one_split xs ys r)) o

-- WHAT A CONDITION COMPARES

issued_from : (n i : Option (List ℕ)) → issued_by n i ≡ true → Issued n i
issued_from None i e = tt
issued_from (Some t) None e = absurd (both_ways false refl e)
issued_from (Some t) (Some u) e = ap Some (sym (same_is t u e))

issued_to : (n i : Option (List ℕ)) → Issued n i → issued_by n i ≡ true
issued_to None i h = refl
issued_to (Some t) None h = absurd (cc)
issued_to (Some t) (Some u) h = let q : u ≡ t = cc in subst (λ v. same t v ≡ true) (sym q) (same_self t)

module _ (c : Condition) where
  compares_from : (a : Attribute) → comparable c a ≡ true → Compares c a
  compares_from a e =
      let p = and_parts (eqb a.id c.id && eqb a.type c.type) (issued_by c.issuer a.issuer) e in
      let q = and_parts (eqb a.id c.id) (eqb a.type c.type) p.0 in
      record { id = eqb-true _ _ q.0; type = eqb-true _ _ q.1; issuer = issued_from c.issuer a.issuer p.1 }

  compares_to : (a : Attribute) → Compares c a → comparable c a ≡ true
  compares_to a h = and_from _ _ (and_from _ _ (eq-eqb _ _ h.id) (eq-eqb _ _ h.type)) (issued_to c.issuer a.issuer h.issuer)

-- the attributes of a category
module _ (k : ℕ) (P : Attribute → Type 0) where
  entered_from : (b : Bool) (e : Element) (es : List Element) (rest : List Attribute) → eqb e.category k ≡ b → (One P rest → One (HasOne k P) es) → One P (cond b (e.attributes ++ rest) rest) → One (HasOne k P) (e ∷ es)
  entered_from true e es rest is ih o = ⊎_elim (λ l. inl (record { category = eqb-true _ _ is; attribute = l })) (λ r. inr (ih r)) (one_split P e.attributes rest o)
  entered_from false e es rest is ih o = inr (ih o)

  in_from : (es : List Element) → One P (in_category k es) → One (HasOne k P) es
  in_from [] o = o
  in_from (e ∷ es) o = entered_from (eqb e.category k) e es (in_category k es) refl (in_from es) o

  passed_to : (b : Bool) (xs rest : List Attribute) → One P rest → One P (cond b (xs ++ rest) rest)
  passed_to true xs rest o = one_right P xs rest o
  passed_to false xs rest o = o

  in_to : (es : List Element) → One (HasOne k P) es → One P (in_category k es)
  in_to [] o = o
  in_to (e ∷ es) o = ⊎_elim
      (λ h. subst (One P) (sym (cond-true _ _ _ (eq-eqb _ _ h.category))) (one_left P e.attributes (in_category k es) h.attribute))
      (λ r. passed_to (eqb e.category k) e.attributes (in_category k es) (in_to es r))
      o

-- some_has and has_none, over what is kept
module _ (c : Condition) where
  has_step : (b : Bool) (a : Attribute) (xs : List Attribute) → comparable c a ≡ b → (some_has c.value (keep (comparable c) xs) ≡ true → One (Equals c) xs) → some_has c.value (cond b (a ∷ keep (comparable c) xs) (keep (comparable c) xs)) ≡ true → One (Equals c) (a ∷ xs)
  has_step true a xs is ih e = ⊎_elim (λ v. inl (record { compares = compares_from c a is; value = same_is _ _ v })) (λ r. inr (ih r)) (or_cases _ _ e)
  has_step false a xs is ih e = inr (ih e)

  has_from : (xs : List Attribute) → some_has c.value (keep (comparable c) xs) ≡ true → One (Equals c) xs
  has_from [] e = both_ways false refl e
  has_from (a ∷ xs) e = has_step (comparable c a) a xs refl (has_from xs) e

  has_more : (b : Bool) (a : Attribute) (rest : List Attribute) → some_has c.value rest ≡ true → some_has c.value (cond b (a ∷ rest) rest) ≡ true
  has_more true a rest e = or_right _ _ e
  has_more false a rest e = e

  has_to : (xs : List Attribute) → One (Equals c) xs → some_has c.value (keep (comparable c) xs) ≡ true
  has_to [] o = absurd o
  has_to (a ∷ xs) o = ⊎_elim
      (λ h. ap (some_has c.value) (cond-true _ _ _ (compares_to c a h.compares)) ∙ or_left _ _ (subst (λ v. same v c.value ≡ true) (sym h.value) (same_self c.value)))
      (λ r. has_more (comparable c a) a (keep (comparable c) xs) (has_to xs r))
      o

  some_step : (b : Bool) (a : Attribute) (xs : List Attribute) → comparable c a ≡ b → (has_none (keep (comparable c) xs) ≡ false → One (Compares c) xs) → has_none (cond b (a ∷ keep (comparable c) xs) (keep (comparable c) xs)) ≡ false → One (Compares c) (a ∷ xs)
  some_step true a xs is ih e = inl (compares_from c a is)
  some_step false a xs is ih e = inr (ih e)

  some_from : (xs : List Attribute) → has_none (keep (comparable c) xs) ≡ false → One (Compares c) xs
  some_from [] e = both_ways true e refl
  some_from (a ∷ xs) e = some_step (comparable c a) a xs refl (some_from xs) e

  some_more : (b : Bool) (a : Attribute) (rest : List Attribute) → has_none rest ≡ false → has_none (cond b (a ∷ rest) rest) ≡ false
  some_more true a rest e = refl
  some_more false a rest e = e

  some_to : (xs : List Attribute) → One (Compares c) xs → has_none (keep (comparable c) xs) ≡ false
  some_to [] o = absurd o
  some_to (a ∷ xs) o = ⊎_elim
      (λ h. ap has_none (cond-true _ _ _ (compares_to c a h)))
      (λ r. some_more (comparable c a) a (keep (comparable c) xs) (some_to xs r))
      o

-- A CONDITION

-- what a truth says of a condition
abbrev Said : List Element → Condition → Truth → Type 0
Said es c met = Met es c
Said es c unmet = False es c
Said es c unknown = Indeterminate es c

equal_compares : (c : Condition) (xs : List Attribute) → One (Equals c) xs → One (Compares c) xs
equal_compares c [] o = o
equal_compares c (x ∷ xs) o = ⊎_elim (λ h. inl h.compares) (λ r. inr (equal_compares c xs r)) o

met_there : (c : Condition) (es : List Element) → Met es c → One (HasOne c.category (Compares c)) es
met_there c [] o = o
met_there c (e ∷ es) o = ⊎_elim (λ h. inl (record { category = h.category; attribute = equal_compares c e.attributes h.attribute })) (λ r. inr (met_there c es r)) o

-- a condition is one of the three
apart : (es : List Element) (c : Condition) (t u : Truth) → Said es c t → Said es c u → t ≡ u
apart es c met met a b = refl
apart es c met unmet a b = absurd (b.not_met a)
apart es c met unknown a b = absurd (b.none (met_there c es a))
apart es c unmet met a b = absurd (a.not_met b)
apart es c unmet unmet a b = refl
apart es c unmet unknown a b = absurd (a.determinate b)
apart es c unknown met a b = absurd (a.none (met_there c es b))
apart es c unknown unmet a b = absurd (b.determinate a)
apart es c unknown unknown a b = refl

module _ (es : List Element) (c : Condition) where
  abbrev candidates : List Attribute
  candidates = in_category c.category es

  abbrev some_equal : Bool
  some_equal = some_has c.value (keep (comparable c) candidates)

  abbrev none_there : Bool
  none_there = has_none (keep (comparable c) candidates)

  met_from : some_equal ≡ true → Met es c
  met_from e = in_from c.category (Equals c) es (has_from c candidates e)

  met_to : Met es c → some_equal ≡ true
  met_to m = has_to c candidates (in_to c.category (Equals c) es m)

  there_to : One (HasOne c.category (Compares c)) es → none_there ≡ false
  there_to o = some_to c candidates (in_to c.category (Compares c) es o)

  there_from : none_there ≡ false → One (HasOne c.category (Compares c)) es
  there_from e = in_from c.category (Compares c) es (some_from c candidates e)

  said_by : (h n : Bool) → some_equal ≡ h → none_there ≡ n → (r : Bool) → c.required ≡ r → Said es c (cond h met (cond (n && r) unknown unmet))
  said_by true n hs ns r rs = met_from hs
  said_by false true hs ns true rs = record { none = λ o. both_ways none_there (there_to o) ns; required = rs }
  said_by false true hs ns false rs = record { not_met = λ m. both_ways some_equal hs (met_to m); determinate = λ i. both_ways c.required rs i.required }
  said_by false false hs ns r rs = record { not_met = λ m. both_ways some_equal hs (met_to m); determinate = λ i. i.none (there_from ns) }

  said : Said es c (truth es c)
  said = said_by some_equal none_there refl refl c.required refl

  truth_is : (t u : Truth) → truth es c ≡ t → Said es c u → t ≡ u
  truth_is t u e h = apart es c t u (subst (Said es c) e said) h

-- A RULE

met_not_false : (es : List Element) (cs : List Condition) → AllByRecursion (Met es) cs → One (False es) cs → ⊥
met_not_false es [] a o = o
met_not_false es (c ∷ cs) a o = ⊎_elim (λ f. f.not_met a.0) (λ r. met_not_false es cs a.1 r) o

met_not_open : (es : List Element) (cs : List Condition) → AllByRecursion (Met es) cs → One (Indeterminate es) cs → ⊥
met_not_open es [] a o = o
met_not_open es (c ∷ cs) a o = ⊎_elim (λ i. i.none (met_there c es a.0)) (λ r. met_not_open es cs a.1 r) o

none_at : (m : ℕ) (q : Rule) → At m q [] → ⊥
none_at m q a = elim a [ ]

module _ (es : List Element) where
  abbrev come : List Condition → Truth
  come cs = all_of (map (truth es) cs)

  abbrev Come : List Condition → Truth → Type 0
  Come cs met = AllByRecursion (Met es) cs
  Come cs unmet = One (False es) cs
  Come cs unknown = (One (False es) cs → ⊥) × One (Indeterminate es) cs

  come_step : (c : Condition) (cs : List Condition) (t u : Truth) → Said es c t → Come cs u → Come (c ∷ cs) (both t u)
  come_step c cs met met a b = (a, b)
  come_step c cs met unmet a b = inr b
  come_step c cs met unknown a b = (⊎_elim (λ f. f.not_met a) b.0, inr b.1)
  come_step c cs unmet u a b = inl a
  come_step c cs unknown met a b = (⊎_elim (λ f. f.determinate a) (λ o. met_not_false es cs b o), inl a)
  come_step c cs unknown unmet a b = inr b
  come_step c cs unknown unknown a b = (⊎_elim (λ f. f.determinate a) b.0, inl a)

  come_is : (cs : List Condition) → Come cs (come cs)
  come_is [] = tt
  come_is (c ∷ cs) = come_step c cs (truth es c) (come cs) (said es c) (come_is cs)

  come_apart : (cs : List Condition) (t u : Truth) → Come cs t → Come cs u → t ≡ u
  come_apart cs met met a b = refl
  come_apart cs met unmet a b = absurd (met_not_false es cs a b)
  come_apart cs met unknown a b = absurd (met_not_open es cs a b.1)
  come_apart cs unmet met a b = absurd (met_not_false es cs b a)
  come_apart cs unmet unmet a b = refl
  come_apart cs unmet unknown a b = absurd (b.0 a)
  come_apart cs unknown met a b = absurd (met_not_open es cs b a.1)
  come_apart cs unknown unmet a b = absurd (a.0 b)
  come_apart cs unknown unknown a b = refl

  come_to : (cs : List Condition) (t : Truth) → Come cs t → come cs ≡ t
  come_to cs t h = come_apart cs (come cs) t (come_is cs) h

-- THE POLICY

module _ (es : List Element) where
  at_end : (pre : List Rule) (r : Rule) (rs : List Rule) → At (length pre) r (pre ++ r ∷ rs)
  at_end [] r rs = first
  at_end (p ∷ pre) r rs = later (at_end pre r rs)

  abbrev FailAll : List Rule → Type 0
  FailAll rules = (m : ℕ) (q : Rule) → At m q rules → Fails es q

  -- what stands below the end of the first ones stands in them
  at_front : (pre rest : List Rule) (m : ℕ) (q : Rule) → m < length pre → At m q (pre ++ rest) → At m q pre
  at_front [] rest m q l a = absurd (omega arith)
  at_front (p ∷ pre) rest zero q l first = first
  at_front (p ∷ pre) rest (suc m) q l (later a) = later (at_front pre rest m q (omega arith) a)

  fail_push : (pre : List Rule) (r : Rule) → FailAll pre → Fails es r → FailAll (pre ++ r ∷ [])
  fail_push [] r h f zero q first = f
  fail_push [] r h f (suc m) q (later a) = h m q a
  fail_push (p ∷ pre) r h f zero q first = h zero p first
  fail_push (p ∷ pre) r h f (suc m) q (later a) = fail_push pre r (λ n x b. h (suc n) x (later b)) f m q a

  walk_by : (pre : List Rule) (r : Rule) (rs : List Rule) (t : Truth) → FailAll pre → Come es r.conditions t
      → (Fails es r → Gives es (pre ++ r ∷ rs) (first_rule es (length pre + 1) rs)) → Gives es (pre ++ r ∷ rs) (rule_answer r (length pre) t (first_rule es (length pre + 1) rs))
  walk_by pre r rs met h c rest = by_rule (record { rule = at_end pre r rs; earlier = λ m q l a. h m q (at_front pre (r ∷ rs) m q l a) }) c
  walk_by pre r rs unknown h c rest = by_open (record { rule = at_end pre r rs; earlier = λ m q l a. h m q (at_front pre (r ∷ rs) m q l a) }) (record { none_false = c.0; one_open = c.1 })
  walk_by pre r rs unmet h c rest = rest c

  walk : (pre rs : List Rule) → FailAll pre → Gives es (pre ++ rs) (first_rule es (length pre) rs)
  walk pre [] h = by_none (subst FailAll (sym (append-nil pre)) h)
  walk pre (r ∷ rs) h = walk_by pre r rs (come es r.conditions) h (come_is es r.conditions)
      (λ f. subst (λ n. Gives es (pre ++ r ∷ rs) (first_rule es n rs)) (length_push pre r)
      (subst (λ l. Gives es l (first_rule es (length (pre ++ r ∷ [])) rs)) (append_assoc pre (r ∷ []) rs) (walk (pre ++ r ∷ []) rs (fail_push pre r h f))))

  -- the other way round
  passes : (r : Rule) (rs : List Rule) (k : ℕ) → Fails es r → first_rule es k (r ∷ rs) ≡ first_rule es (k + 1) rs
  passes r rs k f = ap (λ t. rule_answer r k t (first_rule es (k + 1) rs)) (come_to es r.conditions unmet f)

  reaches : (rules : List Rule) (k n : ℕ) (r : Rule) (t : Truth) → At n r rules → ((m : ℕ) (q : Rule) → m < n → At m q rules → Fails es q) → Come es r.conditions t
      → (x : Answer) → ((later_answer : Answer) → rule_answer r (k + n) t later_answer ≡ x) → first_rule es k rules ≡ x
  reaches [] k n r t a h c x is = elim a [ ]
  reaches (q ∷ rules) k zero r t first h c x is = ap (λ u. rule_answer q k u (first_rule es (k + 1) rules)) (come_to es q.conditions t c) ∙ ap (λ j. rule_answer q j t (first_rule es (k + 1) rules)) (sym (add-zero k)) ∙ is (first_rule es (k + 1) rules)
  reaches (q ∷ rules) k (suc n) r t (later a) h c x is =
      let e : k + 1 + n ≡ k + suc n = omega arith in
      passes q rules k (h zero q (omega arith) first)
      ∙ reaches rules (k + 1) n r t a (λ m y l b. h (suc m) y (omega arith) (later b)) c x (λ z. ap (λ j. rule_answer r j t z) e ∙ is z)

  none_reached : (rules : List Rule) (k : ℕ) → FailAll rules → first_rule es k rules ≡ answers decision.NotApplicable status.Ok 0
  none_reached [] k h = refl
  none_reached (r ∷ rules) k h = passes r rules k (h zero r first) ∙ none_reached rules (k + 1) (λ m q a. h (suc m) q (later a))

  given : (rules : List Rule) (a : Answer) → Gives es rules a → policy_point rules es ≡ a
  given rules a (by_rule {n} {r} w p) = reaches rules 0 n r met w.rule w.earlier p (answers r.effect status.Ok n) (λ z. ap (λ j. answers r.effect status.Ok j) (zero-add n))
  given rules a (by_open {n} {r} w o) = reaches rules 0 n r unknown w.rule w.earlier (o.none_false, o.one_open) (answers decision.Indeterminate status.MissingAttribute n) (λ z. ap (λ j. answers decision.Indeterminate status.MissingAttribute j) (zero-add n))
  given rules a (by_none h) = none_reached rules 0 h

pub first_deciding_rule : FirstDecidingRule
first_deciding_rule rules es a = ((λ e. subst (Gives es rules) e (walk es [] rules (λ m q z. absurd (none_at m q z)))), given es rules a)
