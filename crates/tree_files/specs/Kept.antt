-- The tree that is kept. Assumes nothing.
use Rattle.model.specs.Tree.{Tree}
use Rattle.tree_files.specs.declared.kept.Kept.{Kept}
use Rattle.tree_files.specs.Held.{tree_in}

abbrev pub tree_of : Kept → Tree
tree_of k = tree_in k.tables
