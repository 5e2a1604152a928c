-- What a tree answers, where the specification of trees has no word for it. Assumes nothing.
use Rattle.std.specs.Prelude.{ℕ, ◌-◌, Option}
use Rattle.model.specs.Lists.{upto, found}
use Rattle.model.specs.Tree.{Tree, count}

-- the first node, from `from` on, that a link leads to from `node`
abbrev pub least_child : Tree → ℕ → ℕ → Option ℕ
least_child tree node from = found (tree.linked node) (upto from (count tree - from))
