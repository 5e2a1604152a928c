-- What the faults of a tree file say: a name's or a link's in the file's. Assumes nothing.
use Rattle.model.specs.Layout.{Refusal}
use Rattle.wire.specs.declared.fault.Fault.{Fault}
use Rattle.wire.specs.declared.fault.Refused.{Refused}
use Rattle.wire.specs.Told.{in_field, in_refused}

abbrev pub in_tree_fault : Refused Fault → Refusal
in_tree_fault f = in_refused in_field f
