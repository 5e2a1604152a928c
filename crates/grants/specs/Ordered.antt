-- Tables of grants that are empty, and those that are in order. Assumes nothing.
use Rattle.std.specs.Prelude.{◌≡◌, ℕ, List, [], vec_items}
use Rattle.grants.specs.declared.lines.Lines.{Lines}
use Rattle.grants.specs.Held.{lines_of}
use Rattle.grants.specs.Order.{Indexed}

pub record Empty (i : Lines) : Type 0 where
  pub lines : vec_items i.lines ≡ []
  pub order : vec_items i.order ≡ []

abbrev pub Good : List ℕ → Lines → Type 0
Good bytes i = Indexed (lines_of bytes i) (vec_items i.order)
