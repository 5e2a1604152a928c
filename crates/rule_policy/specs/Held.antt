-- What the tables of a rule policy hold, over its bytes. Assumes nothing.
use mathlib.Core.List as list
use Rattle.std.specs.Prelude.{ℕ, List, vec_items, Vec}
use Rattle.std.specs.Option.{option_map}
use Rattle.std.specs.declared.alloc.Global.{Global}
use Rattle.model.specs.declared.decision.Decision.{Decision}
use Rattle.model.specs.declared.decision.Decision.TheVariants as decision
use Rattle.model.specs.PointFiles.{Condition, Rule}
use Rattle.wire.specs.declared.span.Span.{Span}
use Rattle.wire.specs.Span.{part}
use Rattle.wire.specs.Told.{spanned}
use Rattle.rule_policy.specs.declared.rule.Effect.{Effect}
use Rattle.rule_policy.specs.declared.rule.Effect.TheVariants.{Permit, Deny}
use Rattle.rule_policy.specs.declared.rule.Condition.{Condition as HeldCondition}
use Rattle.rule_policy.specs.declared.rule.Rule.{Rule as HeldRule}
use Rattle.rule_policy.specs.declared.rules.Rules.{Rules}

abbrev pub decides : Effect → Decision
decides Permit = decision.Permit
decides Deny = decision.Deny

abbrev pub condition_of : List ℕ → HeldCondition → Condition
condition_of bytes c = record {
  required = c.required;
  category = c.category;
  id = c.id;
  type = c.data_type;
  issuer = option_map (spanned bytes) c.issuer;
  value = spanned bytes c.value;
}

abbrev pub conditions_of : List ℕ → List HeldCondition → List Condition
conditions_of bytes cs = list.map (condition_of bytes) cs

abbrev pub rule_of : List ℕ → List HeldCondition → HeldRule → Rule
rule_of bytes pool r = record { effect = decides r.effect; conditions = conditions_of bytes (part pool r.conditions) }

abbrev pub conditions_at : Vec HeldCondition Global → List ℕ → Span → List Condition
conditions_at table bytes s = conditions_of bytes (part (vec_items table) s)

abbrev pub rule_at : Vec HeldCondition Global → List ℕ → HeldRule → Rule
rule_at table bytes r = rule_of bytes (vec_items table) r

abbrev pub rule_span : HeldRule → Span
rule_span r = r.conditions

abbrev pub rules_in : List ℕ → Vec HeldRule Global → Vec HeldCondition Global → List Rule
rules_in bytes rules table = list.map (rule_of bytes (vec_items table)) (vec_items rules)

abbrev pub rules_of_held : List ℕ → Rules → List Rule
rules_of_held bytes i = rules_in bytes i.rules i.conditions
