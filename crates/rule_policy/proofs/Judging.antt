-- How a condition is judged attribute by attribute, a rule condition by condition, and a policy rule by rule. Assumes nothing.
use Rattle.std.proofs.Common.{◌≡◌, ℕ, ◌+◌, ◌<◌, ◌≤◌, Bool, true, false, cond, ◌&&◌, ◌||◌, List, [], ◌∷◌, ◌++◌, map, length, get_or, drop, Some, sym, refl, ap, ◌∙◌, ap₂}
use Rattle.std.specs.Option.{option_map}
use Rattle.std.proofs.lemmas.List.{at_drop_more, at_drop_all}
use Rattle.std.proofs.lemmas.Bool.{cond-true, cond-false}
use Rattle.model.specs.Content.{Attribute, Element}
use Rattle.model.specs.Lists.{keep, nth}
use Rattle.model.specs.Values.{same}
use Rattle.model.specs.PointFiles.{Condition, Truth, met, unmet, unknown, comparable, some_has, has_none, truth, both, all_of}
use Rattle.single.specs.declared.seen.Seen.{Seen}
use Rattle.single.specs.declared.single.SingleRequest.{SingleRequest}
use Rattle.single.specs.Shown.{value_at, attribute_seen}
use Rattle.single.specs.Single.{content, bytes_of, name_of, name_or_none, attributes_at, seen_in}
use Rattle.single.proofs.Categories.{attribute_turn}
use Rattle.rule_policy.specs.declared.rule.Condition.{Condition as HeldCondition}
use Rattle.rule_policy.specs.Held.{condition_of, conditions_of}

-- A CONDITION, ATTRIBUTE BY ATTRIBUTE

-- no attribute was compared, and none is left to be
abbrev none_in : Bool → List Attribute → Bool
none_in true xs = false
none_in false xs = has_none xs

abbrev verdict : Condition → Bool → List Attribute → Truth
verdict c compared candidates = cond (some_has c.value candidates) met (cond (none_in compared candidates && c.required) unknown unmet)

-- what a condition comes to, with attributes compared or not, and these left
abbrev pub judge : Condition → Bool → List Attribute → Truth
judge c compared xs = verdict c compared (keep (comparable c) xs)

module _ (c : Condition) (compared : Bool) (a : Attribute) (xs : List Attribute) where
  judge_skip : comparable c a ≡ false → judge c compared (a ∷ xs) ≡ judge c compared xs
  judge_skip e = ap (verdict c compared) (cond-false _ _ _ e)

  judge_met : comparable c a ≡ true → same a.value c.value ≡ true → judge c compared (a ∷ xs) ≡ met
  judge_met e f =
      ap (verdict c compared) (cond-true _ _ _ e)
      ∙ ap (λ t. cond (t || some_has c.value (keep (comparable c) xs)) met (cond (none_in compared (a ∷ keep (comparable c) xs) && c.required) unknown unmet)) f

  none_more : (b : Bool) → none_in b (a ∷ keep (comparable c) xs) ≡ false
  none_more true = refl
  none_more false = refl

  judge_compared : comparable c a ≡ true → same a.value c.value ≡ false → judge c compared (a ∷ xs) ≡ judge c true xs
  judge_compared e f =
      ap (verdict c compared) (cond-true _ _ _ e)
      ∙ ap₂ (λ t u. cond (t || some_has c.value (keep (comparable c) xs)) met (cond (u && c.required) unknown unmet)) f (none_more compared)

-- one attribute more of the i-th element
module _ (s : SingleRequest) (c : Condition) (b : Bool) (i j : ℕ) (a : Seen) (bs nm : List ℕ) (rest : List Attribute)
    (bs_is : bs ≡ bytes_of s) (nm_is : nm ≡ name_or_none (name_of s)) (at : option_map (seen_in s) (Some a) ≡ nth (attributes_at (content s) i) j) where
  abbrev all : List Attribute
  all = attributes_at (content s) i

  tested : (t : Bool) → t ≡ comparable c (attribute_seen bs [] a) → comparable c (seen_in s a) ≡ t
  tested t e = sym (e ∙ ap (λ x. comparable c (attribute_seen x [] a)) bs_is)

  valued : (v w : List ℕ) (t : Bool) → v ≡ value_at bs nm a.value → w ≡ c.value → t ≡ same v w → same (seen_in s a).value c.value ≡ t
  valued v w t v_is w_is e = sym (e ∙ ap₂ same (v_is ∙ ap₂ (λ x y. value_at x y a.value) bs_is nm_is) w_is)

  pub turn_skip : false ≡ comparable c (attribute_seen bs [] a) → judge c b (drop j all ++ rest) ≡ judge c b (drop (j + 1) all ++ rest)
  turn_skip e = ap (judge c b) (attribute_turn s i j a rest at) ∙ judge_skip c b (seen_in s a) _ (tested false e)

  pub turn_met : (v w : List ℕ) → true ≡ comparable c (attribute_seen bs [] a) → v ≡ value_at bs nm a.value → w ≡ c.value → true ≡ same v w → judge c b (drop j all ++ rest) ≡ met
  turn_met v w e v_is w_is f = ap (judge c b) (attribute_turn s i j a rest at) ∙ judge_met c b (seen_in s a) _ (tested true e) (valued v w true v_is w_is f)

  pub turn_compared : (v w : List ℕ) → true ≡ comparable c (attribute_seen bs [] a) → v ≡ value_at bs nm a.value → w ≡ c.value → false ≡ same v w → judge c b (drop j all ++ rest) ≡ judge c true (drop (j + 1) all ++ rest)
  turn_compared v w e v_is w_is f = ap (judge c b) (attribute_turn s i j a rest at) ∙ judge_compared c b (seen_in s a) _ (tested true e) (valued v w false v_is w_is f)

-- A RULE, CONDITION BY CONDITION

abbrev pub settle : Bool → Truth → Truth
settle true t = t
settle false t = both unknown t

abbrev pub come : List Element → List ℕ → List HeldCondition → Truth
come es texts xs = all_of (map (truth es) (conditions_of texts xs))

unmet_settles : (k : Bool) → settle k unmet ≡ unmet
unmet_settles true = refl
unmet_settles false = refl

module _ (es : List Element) (texts : List ℕ) (cs : List HeldCondition) (i : ℕ) (known : Bool) where
  pub unmet_here : (o : HeldCondition) → i < length cs → unmet ≡ truth es (condition_of texts (get_or cs i o)) → settle known (come es texts (drop i cs)) ≡ unmet
  unmet_here o h e =
      at_drop_more (λ xs. settle known (come es texts xs)) cs i o h
      ∙ ap (λ u. settle known (both u (come es texts (drop (i + 1) cs)))) (sym e)
      ∙ unmet_settles known

  pub all_judged : length cs ≤ i → settle known (come es texts (drop i cs)) ≡ settle known met
  all_judged h = at_drop_all (λ xs. settle known (come es texts xs)) cs i h
