-- What the tables of a tree file hold. Assumes nothing.
use Rattle.std.specs.Prelude.{[], length, vec_items}
use Rattle.model.specs.Tree.{Tree}
use Rattle.model.specs.TreeFiles.{linked_tree}
use Rattle.tree_files.specs.declared.tables.Tables.{Tables}
use Rattle.tree_files.specs.Links.{Ends, LinkAscending}
use Rattle.tree_files.specs.Texts.{texts_in}

abbrev pub tree_in : Tables → Tree
tree_in t = linked_tree (texts_in t.names) (vec_items t.links)

-- a tree of no nodes
abbrev pub no_tree : Tree
no_tree = linked_tree [] []

-- tables that questions can be answered from
pub record Good (t : Tables) : Type 0 where
  pub ends : Ends (length (texts_in t.names)) (vec_items t.links)
  pub sorted : LinkAscending (vec_items t.links)
