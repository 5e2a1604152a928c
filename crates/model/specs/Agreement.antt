-- The computed rows are the related ones. Assumes nothing.
use Rattle.std.specs.Prelude.{◌≡◌, ℕ, List, Ok}
use Rattle.model.specs.Content.{Request, read_request}
use Rattle.model.specs.Tree.{Tree, Limits}
use Rattle.model.specs.Points.{Point}
use Rattle.model.specs.Rows.{rows}
use Rattle.model.specs.Meaning.{AllRows}

-- they stand in order, each is one of the request's, none is there twice and none is missing
abbrev pub RowsAgree : Type 0
RowsAgree = (bytes : List ℕ) (q : Request) (tree : Tree) (point : Point) → read_request bytes ≡ Ok q → Limits tree
    → AllRows q tree point (rows q tree point)
