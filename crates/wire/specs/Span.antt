-- What a span names. Assumes nothing.
use Rattle.std.specs.Prelude.{List, take, drop}
use Rattle.wire.specs.declared.span.Span.{Span}

abbrev pub part : {X : Type 0} → List X → Span → List X
part xs s = take s.count (drop s.first xs)
