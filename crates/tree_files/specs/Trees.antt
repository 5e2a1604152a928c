-- What a place for a tree means. Assumes nothing.
use Rattle.model.specs.Tree.{Tree}
use Rattle.tree_files.specs.declared.file.TreeFile.{TreeFile}
use Rattle.tree_files.specs.Kept.{tree_of}

abbrev pub tree_of_file : {F : Type 0} → TreeFile F → Tree
tree_of_file t = tree_of t.kept
