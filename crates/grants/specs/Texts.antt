-- The texts of a line as the code compares them. Assumes nothing.
use Rattle.std.specs.Prelude.{List}
use Rattle.model.specs.PointFiles.{Line}
use Rattle.grants.specs.declared.texts.Texts.{Texts}
use Rattle.grants.specs.declared.table.Table.{Table}
use Rattle.grants.specs.Held.{lines_at}

abbrev pub texts_line : Texts → Line
texts_line t = record { subject = t.subject.now; action = t.action.now; resource = t.resource.now }

abbrev pub table_lines : Table → List Line
table_lines t = lines_at t.bytes.now t.lines.now
