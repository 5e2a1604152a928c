-- What the next row of an enquiry's rows says. Assumes nothing.
use Rattle.std.specs.Prelude.{ℕ, ◌+◌, ◌≤◌, length, Some, None, Option}
use Rattle.model.specs.declared.call.CallRefusal.TheVariants.{Ended}
use Rattle.model.specs.Tree.{Tree}
use Rattle.model.specs.Points.{Point}
use Rattle.model.specs.Rows.{spots}
use Rattle.model.specs.Law.{Reply, step, row, refuses}
use Rattle.enquiry.specs.declared.enquiry.Enquiry.{Enquiry}
use Rattle.enquiry.specs.declared.row.Row.{Row as ToldRow}
use Rattle.enquiry.specs.Rows.{row_of}
use Rattle.enquiry.specs.Calls.{content, Standing, Answers}

-- no row, as a step past the last one
abbrev pub next_told : Option ToldRow → Reply
next_told (Some r) = row (row_of r)
next_told None = refuses Ended

-- no more rows are left than so many
abbrev pub AtMost : Tree → Enquiry → ℕ → Type 0
AtMost tree e most = length (spots (content e) tree) ≤ e.handed + most

pub record Stepped (tree : Tree) (point : Point) (e : Enquiry) (a : Reply) (e' : Enquiry) (most : ℕ) : Type 0 where
  pub answers : Answers tree point e step a e'
  pub left : AtMost tree e' most

-- what comes is what a step hands out, where no more rows are left than may come
abbrev pub Steps : Tree → Point → Enquiry → ℕ → Option ToldRow → Enquiry → ℕ → Type 0
Steps tree point e most o e' most' = Standing tree point e → AtMost tree e most → Stepped tree point e (next_told o) e' most'
