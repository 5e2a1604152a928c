-- The table of rules as it grows. Assumes nothing.
use Rattle.std.proofs.Common.{◌≡◌, ℕ, ◌≤◌, List, [], ◌∷◌, ◌++◌, vec_items, vec_len, Vec, ap}
use Rattle.std.specs.declared.alloc.Global.{Global}
use Rattle.model.specs.PointFiles as files
use Rattle.wire.specs.Span.{part}
use Rattle.request.specs.Tables.{Grows, reach}
use Rattle.request.proofs.Tables.{held_push}
use Rattle.rule_policy.specs.declared.rule.Condition.{Condition}
use Rattle.rule_policy.specs.declared.rule.Rule.{Rule}
use Rattle.rule_policy.specs.Held.{decides, conditions_of, rule_of, rule_at, rule_span, rules_in}

rule_by_part : (bytes : List ℕ) (old new : List Condition) (r : Rule) → part new (rule_span r) ≡ part old (rule_span r) → rule_of bytes new r ≡ rule_of bytes old r
rule_by_part bytes old new r p = let f : List Condition → files.Rule = λ l. record { effect = decides r.effect; conditions = conditions_of bytes l } in ap f p

pub rules_push : (bytes : List ℕ) (m : ℕ) (l w : Vec Rule Global) (t u : Vec Condition Global) (r : Rule) → Grows m t u → reach rule_span (vec_items l) ≤ vec_len t → vec_items w ≡ vec_items l ++ r ∷ [] → rules_in bytes w u ≡ rules_in bytes l t ++ rule_at u bytes r ∷ []
rules_push bytes = held_push rule_span (rule_of bytes) (rule_by_part bytes)
