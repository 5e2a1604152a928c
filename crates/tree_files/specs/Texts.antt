-- The names that a table of names holds. Assumes nothing.
use Rattle.std.specs.Prelude.{ℕ, List, vec_items}
use Rattle.tree_files.specs.declared.names.Names.{Names}
use Rattle.tree_files.specs.Names.{texts_of}

abbrev pub texts_in : Names → List (List ℕ)
texts_in n = texts_of n.bytes.now (vec_items n.spans)
