-- The two kinds of tree files, as a list of names and what follows it. Assumes nothing.
use Rattle.std.specs.Prelude.{◌≡◌, ℕ, Bool, true, ◌↔◌, List, length, Ok, Result, refl}
use Rattle.model.specs.Layout.{Refusal, Reader, ◌>>=◌, give, file}
use Rattle.model.specs.Tree.{Tree}
use Rattle.model.specs.TreeFiles.{any_name, hollow, name_list, link_list, linked_tree, path_tree, read_linked_tree, read_path_tree}
use Rattle.model.specs.TreeSpelling.{Bytes, LinkedSpelling, PathSpelling}
use Rattle.model.proofs.TreeSpelled.{trees_accepted_exactly}
use Rattle.tree_files.specs.Segments.{BySegments}
use Rattle.tree_files.specs.Segmented.{read_by_segments}

abbrev pub read_tree : (List ℕ → Bool) → (List (List ℕ) → Reader Tree) → List ℕ → Result Tree Refusal
read_tree wrong after_names = file (name_list wrong >>= after_names)

-- LINKED TREES

abbrev pub links_after : List (List ℕ) → Reader Tree
links_after names = link_list (length names) >>= λ links. give (linked_tree names links)

abbrev pub AnyTree : Tree → Type 0
AnyTree tree = Unit {0}

pub linked_in_parts : (bytes : List ℕ) → read_linked_tree bytes ≡ read_tree any_name links_after bytes
linked_in_parts bytes = refl

pub linked_exactly : (bytes : List ℕ) (tree : Tree) → Bytes bytes → (read_linked_tree bytes ≡ Ok tree) ↔ LinkedSpelling bytes tree
linked_exactly bytes tree small = (trees_accepted_exactly bytes tree small).0

pub linked_besides : (bytes : List ℕ) (tree : Tree) → Ok tree ≡ read_linked_tree bytes → AnyTree tree
linked_besides bytes tree e = tt

-- PATH TREES

abbrev pub paths_after : List (List ℕ) → Reader Tree
paths_after names = give (path_tree names)

pub paths_in_parts : (bytes : List ℕ) → read_path_tree bytes ≡ read_tree (hollow true) paths_after bytes
paths_in_parts bytes = refl

pub paths_exactly : (bytes : List ℕ) (tree : Tree) → Bytes bytes → (read_path_tree bytes ≡ Ok tree) ↔ PathSpelling bytes tree
paths_exactly bytes tree small = (trees_accepted_exactly bytes tree small).1

pub paths_besides : (bytes : List ℕ) (tree : Tree) → Ok tree ≡ read_path_tree bytes → BySegments tree
paths_besides bytes tree e = read_by_segments bytes tree e
