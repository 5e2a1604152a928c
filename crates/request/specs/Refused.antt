-- What the faults of a request say: an attribute's in an element's in the request's. Assumes nothing.
use Rattle.model.specs.Layout.{Refusal}
use Rattle.wire.specs.declared.fault.Fault.{Fault}
use Rattle.wire.specs.declared.fault.Refused.{Refused}
use Rattle.wire.specs.Told.{in_field, in_refused}

abbrev pub in_element_fault : Refused Fault → Refusal
in_element_fault f = in_refused in_field f

abbrev pub in_request_fault : Refused (Refused Fault) → Refusal
in_request_fault f = in_refused in_element_fault f
