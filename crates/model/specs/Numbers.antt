-- The numbers by which decisions, statuses, causes and refusals are known. Assumes nothing.
use Rattle.std.specs.Prelude.{ℕ}
use Rattle.model.specs.declared.decision.Decision.{Decision}
use Rattle.model.specs.declared.decision.Decision.TheVariants.{Permit, Deny, Indeterminate, NotApplicable}
use Rattle.model.specs.declared.decision.Status.{Status}
use Rattle.model.specs.declared.decision.Status.TheVariants.{Ok, SyntaxError, MissingAttribute, ProcessingError}
use Rattle.model.specs.declared.decision.Cause.{Cause}
use Rattle.model.specs.declared.decision.Cause.TheVariants.{UnknownTag, SeveralScopes, BadScope, NoSingleResourceId, UnknownNode}
use Rattle.model.specs.declared.refusal.Defect.{Defect}
use Rattle.model.specs.declared.refusal.Defect.TheVariants.{EndsEarly, UnnamedBit, OutOfRange, BytesLeft, TagRepeated, NameRepeated, NoSuchNode, EmptySegment}
use Rattle.model.specs.declared.call.CallRefusal.{CallRefusal}
use Rattle.model.specs.declared.call.CallRefusal.TheVariants.{Ended, RowsLeft, NoVerdict, TooShort, FaultRow}

abbrev pub decision_number : Decision → ℕ
decision_number Permit = 0
decision_number Deny = 1
decision_number Indeterminate = 2
decision_number NotApplicable = 3

abbrev pub status_number : Status → ℕ
status_number Ok = 0
status_number SyntaxError = 1
status_number MissingAttribute = 2
status_number ProcessingError = 3

abbrev pub cause_number : Cause → ℕ
cause_number UnknownTag = 41
cause_number SeveralScopes = 42
cause_number BadScope = 43
cause_number NoSingleResourceId = 44
cause_number UnknownNode = 45

abbrev pub defect_number : Defect → ℕ
defect_number EndsEarly = 11
defect_number UnnamedBit = 12
defect_number OutOfRange = 13
defect_number BytesLeft = 14
defect_number TagRepeated = 15
defect_number NameRepeated = 16
defect_number NoSuchNode = 17
defect_number EmptySegment = 18

abbrev pub call_refusal_number : CallRefusal → ℕ
call_refusal_number Ended = 31
call_refusal_number RowsLeft = 32
call_refusal_number NoVerdict = 33
call_refusal_number (TooShort needed) = 34
call_refusal_number FaultRow = 35
