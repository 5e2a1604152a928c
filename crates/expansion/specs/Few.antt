-- What a few numbers are. Assumes nothing.
use Rattle.std.specs.Prelude.{ℕ, List, take}
use Rattle.expansion.specs.declared.few.Few.{Few}

abbrev pub held : Few → List ℕ
held f = take f.count f.numbers
