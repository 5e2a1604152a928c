-- A policy, rule by rule. Assumes nothing.
use Rattle.std.proofs.Common.{◌≡◌, ℕ, ◌+◌, ◌<◌, ◌≤◌, Bool, true, false, List, ◌∷◌, map, length, get_or, drop, vec_items, sym, ap, ◌∙◌, arith}
use Rattle.std.proofs.lemmas.List.{at_drop_more, get_or-map, length-map}
use Rattle.model.specs.declared.decision.Decision.{Decision}
use Rattle.model.specs.declared.decision.Decision.TheVariants.{Indeterminate}
use Rattle.model.specs.declared.decision.Status.TheVariants.{Ok, MissingAttribute}
use Rattle.model.specs.Content.{Element}
use Rattle.model.specs.Points.{Answer, answers}
use Rattle.model.specs.PointFiles.{Rule, Truth, met, unmet, unknown, truth, all_of, rule_answer, first_rule}
use Rattle.rule_policy.specs.declared.policy.RulePolicy.{RulePolicy}
use Rattle.rule_policy.specs.declared.rule.Condition.{Condition}
use Rattle.rule_policy.specs.declared.rule.Rule.{Rule as HeldRule}
use Rattle.rule_policy.specs.Held.{decides, condition_of, conditions_of, rule_of}
use Rattle.rule_policy.specs.Place.{rules_of, rules_shown, conditions_shown}
use Rattle.rule_policy.proofs.Judging.{settle, come, unmet_here, all_judged}

module _ (p : RulePolicy) (es : List Element) (held : List HeldRule) (held_is : rules_shown p held ≡ rules_of p) (n : ℕ) where
  abbrev shown : HeldRule → Rule
  shown r = rule_of p.bytes.now (vec_items p.index.conditions) r

  long : length (rules_of p) ≡ length held
  long = sym (ap length held_is) ∙ length-map held shown

  -- rule n has the conditions `cs`, of which those from i on are left
  module _ (r : HeldRule) (at : (n < length held) × ((d : HeldRule) → r ≡ get_or held n d)) (cs : List Condition) (cs_is : conditions_of p.bytes.now cs ≡ conditions_shown p r.conditions) where
    rule_here : get_or (rules_of p) n (shown r) ≡ shown r
    rule_here =
        ap (λ l. get_or l n (shown r)) (sym held_is)
        ∙ get_or-map shown held n r (shown r) at.0
        ∙ sym (ap shown (at.1 r))

    abbrev by_truth : Truth → Answer
    by_truth t = rule_answer (shown r) n t (first_rule es (n + 1) (drop (n + 1) (rules_of p)))

    first_at : (t : Truth) → come es p.bytes.now cs ≡ t → first_rule es n (drop n (rules_of p)) ≡ by_truth t
    first_at t is =
        let in' : n < length (rules_of p) = omega (arith, long, at.0) in
        at_drop_more (first_rule es n) (rules_of p) n (shown r) in'
        ∙ ap (λ x. first_rule es n (x ∷ drop (n + 1) (rules_of p))) rule_here
        ∙ ap (λ l. by_truth (all_of (map (truth es) l))) (sym cs_is)
        ∙ ap by_truth is

    module _ (i : ℕ) (known : Bool) (inv : settle known (come es p.bytes.now (drop i cs)) ≡ come es p.bytes.now cs) (a : Answer) (rest : first_rule es n (drop n (rules_of p)) ≡ a) where
      pub rule_fails : (o : Condition) → i < length cs → unmet ≡ truth es (condition_of p.bytes.now (get_or cs i o)) → first_rule es (n + 1) (drop (n + 1) (rules_of p)) ≡ a
      rule_fails o lt e = sym (first_at unmet (sym inv ∙ unmet_here es p.bytes.now cs i known o lt e)) ∙ rest

      pub rule_applies : (d : Decision) → length cs ≤ i → known ≡ true → d ≡ decides r.effect → answers d Ok n ≡ a
      rule_applies d le k is = ap (λ x. answers x Ok n) is ∙ sym (first_at met (sym inv ∙ all_judged es p.bytes.now cs i known le ∙ ap (λ b. settle b met) k)) ∙ rest

      pub rule_open : length cs ≤ i → known ≡ false → answers Indeterminate MissingAttribute n ≡ a
      rule_open le k = sym (first_at unknown (sym inv ∙ all_judged es p.bytes.now cs i known le ∙ ap (λ b. settle b met) k)) ∙ rest
