-- What the faults of grants say: a line's in the file's. Assumes nothing.
use Rattle.model.specs.Layout.{Refusal}
use Rattle.wire.specs.declared.fault.Fault.{Fault}
use Rattle.wire.specs.declared.fault.Refused.{Refused}
use Rattle.wire.specs.Told.{in_field, in_refused}

abbrev pub in_grants_fault : Refused Fault → Refusal
in_grants_fault f = in_refused in_field f
