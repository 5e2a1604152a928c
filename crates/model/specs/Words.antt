-- The words by which decisions, statuses, kinds, causes and refusals are told. Assumes nothing.
use Rattle.std.specs.Prelude.{ℕ, List, codes}
use Rattle.model.specs.declared.decision.Decision.{Decision}
use Rattle.model.specs.declared.decision.Decision.TheVariants.{Permit, Deny, Indeterminate, NotApplicable}
use Rattle.model.specs.declared.decision.Status.{Status}
use Rattle.model.specs.declared.decision.Status.TheVariants.{Ok, SyntaxError, MissingAttribute, ProcessingError}
use Rattle.model.specs.declared.decision.Cause.{Cause}
use Rattle.model.specs.declared.decision.Cause.TheVariants.{UnknownTag, SeveralScopes, BadScope, NoSingleResourceId, UnknownNode}
use Rattle.model.specs.declared.item.Kind.{Kind}
use Rattle.model.specs.declared.item.Kind.TheVariants as kind
use Rattle.model.specs.declared.refusal.Defect.{Defect}
use Rattle.model.specs.declared.refusal.Defect.TheVariants.{EndsEarly, UnnamedBit, OutOfRange, BytesLeft, TagRepeated, NameRepeated, NoSuchNode, EmptySegment}
use Rattle.model.specs.declared.call.CallRefusal.{CallRefusal}
use Rattle.model.specs.declared.call.CallRefusal.TheVariants.{Ended, RowsLeft, NoVerdict, TooShort, FaultRow}

abbrev pub decision_words : Decision → List ℕ
decision_words Permit = codes "Permit"
decision_words Deny = codes "Deny"
decision_words Indeterminate = codes "Indeterminate"
decision_words NotApplicable = codes "NotApplicable"

abbrev pub status_words : Status → List ℕ
status_words Ok = codes "ok"
status_words SyntaxError = codes "syntax-error"
status_words MissingAttribute = codes "missing-attribute"
status_words ProcessingError = codes "processing-error"

abbrev pub cause_words : Cause → List ℕ
cause_words UnknownTag = codes "no element carries the tag"
cause_words SeveralScopes = codes "the resource has more than one scope"
cause_words BadScope = codes "the scope is not Immediate, Children or Descendants"
cause_words NoSingleResourceId = codes "the resource has not exactly one resource-id"
cause_words UnknownNode = codes "no node has the name"

abbrev pub kind_words : Kind → List ℕ
kind_words kind.Element = codes "element"
kind_words kind.Reference = codes "reference"
kind_words kind.Attribute = codes "attribute"
kind_words kind.Rule = codes "rule"
kind_words kind.Condition = codes "condition"
kind_words kind.Name = codes "name"
kind_words kind.Link = codes "link"
kind_words kind.Line = codes "line"

abbrev pub defect_words : Defect → List ℕ
defect_words EndsEarly = codes "the bytes end inside or before a field"
defect_words UnnamedBit = codes "a bit of a map stands that has no name"
defect_words OutOfRange = codes "a count, a length or a code is out of its range"
defect_words BytesLeft = codes "bytes are left over"
defect_words TagRepeated = codes "a tag repeats that of an earlier element"
defect_words NameRepeated = codes "a name repeats an earlier one"
defect_words NoSuchNode = codes "a link names no node"
defect_words EmptySegment = codes "a path has an empty segment"

abbrev pub call_refusal_words : CallRefusal → List ℕ
call_refusal_words Ended = codes "the last row has been handed out"
call_refusal_words RowsLeft = codes "a row is left"
call_refusal_words NoVerdict = codes "the request asks for no verdict"
call_refusal_words (TooShort needed) = codes "the buffer is too short"
call_refusal_words FaultRow = codes "the next row is a fault row"
