-- What the place of grants holds, and what is shown of it. Assumes nothing.
use mathlib.Core.List as list
use Rattle.std.specs.Prelude.{List}
use Rattle.model.specs.PointFiles.{Line, grants_point}
use Rattle.model.specs.Points.{Point}
use Rattle.grants.specs.declared.grants.Grants.{Grants}
use Rattle.grants.specs.declared.line.Line.{Line as HeldLine}
use Rattle.grants.specs.Held.{line_of, lines_of}

abbrev pub grant_lines : Grants → List Line
grant_lines g = lines_of g.bytes.now g.index

-- lines as the place holds them
abbrev pub lines_shown : Grants → List HeldLine → List Line
lines_shown g ls = list.map (line_of g.bytes.now) ls

abbrev pub answer_of : Grants → Point
answer_of g = grants_point (grant_lines g)
