-- What the faults of a rule policy say: a condition's in a rule's in the policy's. Assumes nothing.
use Rattle.model.specs.Layout.{Refusal}
use Rattle.wire.specs.declared.fault.Fault.{Fault}
use Rattle.wire.specs.declared.fault.Refused.{Refused}
use Rattle.wire.specs.Told.{in_field, in_refused}

abbrev pub in_rule_fault : Refused Fault → Refusal
in_rule_fault f = in_refused in_field f

abbrev pub in_policy_fault : Refused (Refused Fault) → Refusal
in_policy_fault f = in_refused in_rule_fault f
