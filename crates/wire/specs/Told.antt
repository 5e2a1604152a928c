-- What the answer of a function that reads says. Assumes nothing.
use Rattle.std.specs.Prelude.{◌≡◌, ℕ, List, [], drop, Ok, Err, Result}
use Rattle.model.specs.Layout.{Reader, Reading, got, refused, Refusal, around_it}
use Rattle.model.specs.Numbers.{defect_number}
use Rattle.wire.specs.declared.fault.Fault.{Fault}
use Rattle.wire.specs.declared.fault.ItemFault.{ItemFault}
use Rattle.wire.specs.declared.fault.Refused.{Refused}
use Rattle.wire.specs.declared.fault.Refused.TheVariants.{Field, Item}
use Rattle.wire.specs.declared.reader.Reader.{Reader as Stand}
use Rattle.wire.specs.declared.span.Span.{Span}
use Rattle.wire.specs.Span.{part}

abbrev pub in_field : Fault → Refusal
in_field f = record { number = defect_number f.defect; around = []; place = f.place }

module _ {E : Type 0} where
  abbrev pub in_item : (E → Refusal) → ItemFault E → Refusal
  in_item why f = around_it f.item (why f.fault)

  abbrev pub in_refused : (E → Refusal) → Refused E → Refusal
  in_refused why (Field f) = in_field f
  in_refused why (Item f) = in_item why f

-- what is found where a reader stands
abbrev pub from : {X : Type 0} → Stand → Reader X → Reading X
from at r = r at.place (drop at.place at.bytes.now)

module _ {X Y F : Type 0} where
  -- what a result says, with where the reader stands after it: the value by its meaning, or the fault by its own
  abbrev pub told : (F → Refusal) → (X → Y) → Result X F → Stand → Reading Y
  told why means (Ok x) at = got (means x) at.place (drop at.place at.bytes.now)
  told why means (Err e) at = refused (why e)

  -- a read: the file stays, and the result says what is found; what a value means may depend on the file's bytes
  pub record Reads (why : F → Refusal) (means : List ℕ → X → Y) (before : Stand) (result : Result X F) (after : Stand) (r : Reader Y) : Type 0 where
    pub same : after.bytes ≡ before.bytes
    pub read : told why (means before.bytes.now) result after ≡ from before r

-- of a value that means itself
abbrev pub itself : {X : Type 0} → List ℕ → X → X
itself bytes x = x

-- the bytes that a span names
abbrev pub spanned : List ℕ → Span → List ℕ
spanned bytes s = part bytes s
