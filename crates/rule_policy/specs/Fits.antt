-- A rule policy's answers keep the status rule and the range of places. Assumes nothing.
use Rattle.std.specs.Prelude.{ℕ, ◌+◌, ◌≤◌, List, [], ◌∷◌, length, vec_items, ◌≢◌, refl}
use mathlib.Core.List as list
use Rattle.std.proofs.Common.{arith}
use Rattle.model.specs.declared.decision.Decision.{Decision}
use Rattle.model.specs.declared.decision.Decision.TheVariants.{Indeterminate, NotApplicable}
use Rattle.model.specs.declared.decision.Status.{Status}
use Rattle.model.specs.declared.decision.Status.TheVariants.{Ok, MissingAttribute}
use Rattle.model.specs.Content.{Element}
use Rattle.model.specs.Points.{Answer, AnswerFits, PointFits, answers}
use Rattle.model.specs.PointFiles.{Truth, met, unmet, unknown, truth, all_of, rule_answer, first_rule}
use Rattle.rule_policy.specs.declared.policy.RulePolicy.{RulePolicy}
use Rattle.rule_policy.specs.declared.rule.Condition.{Condition}
use Rattle.rule_policy.specs.declared.rule.Effect.{Effect}
use Rattle.rule_policy.specs.declared.rule.Effect.TheVariants as effect
use Rattle.rule_policy.specs.declared.rule.Rule.{Rule}
use Rattle.rule_policy.specs.Held.{decides, rule_of}
use Rattle.rule_policy.specs.Place.{answer_of}

settled_fits : (d : Decision) (p : ℕ) → (d ≢ Indeterminate) → p ≤ 65535 → AnswerFits (answers d Ok p)
settled_fits d p h l = record { status = ((λ _. h), (λ _. refl)); place = l }

effect_settled : (e : Effect) → decides e ≢ Indeterminate
effect_settled effect.Permit e = cc
effect_settled effect.Deny e = cc

open_fits : (s : Status) (p : ℕ) → (s ≢ Ok) → p ≤ 65535 → AnswerFits (answers Indeterminate s p)
open_fits s p h l = record { status = ((λ e. absurd (h e)), (λ f. absurd (f refl))); place = l }

module _ (bytes : List ℕ) (pool : List Condition) where
  rule_fits : (t : Truth) (r : Rule) (n : ℕ) (a : Answer) → n ≤ 65535 → AnswerFits a → AnswerFits (rule_answer (rule_of bytes pool r) n t a)
  rule_fits met r n a l h = settled_fits (decides r.effect) n (effect_settled r.effect) l
  rule_fits unknown r n a l h = open_fits MissingAttribute n (λ e. cc) l
  rule_fits unmet r n a l h = h

  rules_fit : (es : List Element) (n : ℕ) (rs : List Rule) → n + length rs ≤ 65536 → AnswerFits (first_rule es n (list.map (rule_of bytes pool) rs))
  rules_fit es n [] h = settled_fits NotApplicable 0 (λ e. cc) (omega arith)
  rules_fit es n (r ∷ rs) h =
      let here : n ≤ 65535 = omega arith in
      let rest : n + 1 + length rs ≤ 65536 = omega arith in
      rule_fits (all_of (list.map (truth es) (rule_of bytes pool r).conditions)) r n _ here (rules_fit es (n + 1) rs rest)

pub policy_fits : (p : RulePolicy) → PointFits (answer_of p)
policy_fits p es =
    let few : 0 + length (vec_items p.index.rules) ≤ 65536 = omega (arith, p.index.few, p.index.rules.ok.0) in
    rules_fit p.bytes.now (vec_items p.index.conditions) es 0 (vec_items p.index.rules) few
