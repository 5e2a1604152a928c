-- What is put to a decision point. Assumes nothing.
use Rattle.std.specs.Prelude.{ℕ, cond, List, Some, None, Option, nat_lt}
use Rattle.model.specs.Content.{Element}
use Rattle.model.specs.Rows.{Listed, single_request}
use Rattle.model.specs.Tree.{Tree, count}

abbrev pub element_of : Listed → Element
element_of l = l.element

-- the single request for a node, if the tree has it
abbrev pub at_node : Tree → ℕ → List Listed → Option (List Element)
at_node tree n ls = cond (nat_lt n (count tree)) (Some (single_request tree (Some n) ls)) None
