use Rattle.std.proofs.Common.{sym, ◌∙◌, arith}
use Rattle.std.proofs.lemmas.List.{nil_from_length}
use Rattle.std.proofs.lemmas.Bool.{ltb-true, ltb-false}
use Rattle.wire.proofs.Fields.{after_fits, first_byte}
use Rattle.wire.proofs.reader.Reader.byte.Goals as goal

pub returns-in_default : goal.returns-in_default
returns-in_default c = record { here = sym c.rest.ensures ∙ nil_from_length c.rest.result.now (omega (arith, ltb-true, ltb-false)); fault = c.fault.ensures }

pub overflow_sub-result : goal.overflow_sub-result
overflow_sub-result c = after_fits c.args.self.now.bytes.now c.args.self.now.place c.rest.result.now c.rest.ensures 1

pub returns : goal.returns
returns c = first_byte c.args.self.now.bytes.now c.args.self.now.place c.rest.result.now c.rest.ensures (omega (arith, ltb-true, ltb-false))
