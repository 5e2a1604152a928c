-- What the table of grants holds, over its bytes. Assumes nothing.
use mathlib.Core.List as list
use Rattle.std.specs.Prelude.{ℕ, List, vec_items, Vec}
use Rattle.std.specs.declared.alloc.Global.{Global}
use Rattle.model.specs.PointFiles.{Line}
use Rattle.wire.specs.Told.{spanned}
use Rattle.grants.specs.declared.line.Line.{Line as HeldLine}
use Rattle.grants.specs.declared.lines.Lines.{Lines}

abbrev pub line_of : List ℕ → HeldLine → Line
line_of bytes l = record { subject = spanned bytes l.subject; action = spanned bytes l.action; resource = spanned bytes l.resource }

abbrev pub lines_at : List ℕ → List HeldLine → List Line
lines_at bytes lines = list.map (line_of bytes) lines

abbrev pub lines_in : List ℕ → Vec HeldLine Global → List Line
lines_in bytes lines = list.map (line_of bytes) (vec_items lines)

abbrev pub lines_of : List ℕ → Lines → List Line
lines_of bytes i = lines_in bytes i.lines
