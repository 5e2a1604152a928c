-- The names of a tree, and a table of the nodes in the order of their names. Assumes nothing.
use Rattle.std.specs.Prelude.{◌≡◌, ℕ, ◌<◌, ◌≤◌, true, List, [], map, length, Ok, Err, Result, nat_eq, slice_index, slice_index_or}
use Rattle.std.specs.declared.cmp.Ordering.TheVariants.{Less, Greater}
use Rattle.std.specs.declared.cmp.Ordering.{Ordering}
use Rattle.std.specs.Cmp.Lexicographic.{slice_cmp}
use Rattle.std.specs.Ordering.{is_lt, nat_cmp}
use Rattle.model.specs.Lists.{any}
use Rattle.model.specs.Spelling.{Between}
use Rattle.wire.specs.declared.span.Span.{Span}
use Rattle.wire.specs.Told.{spanned}
use Rattle.tree_files.specs.declared.names.NewName.{NewName}

abbrev pub texts_of : List ℕ → List Span → List (List ℕ)
texts_of bytes names = map (spanned bytes) names

abbrev pub name_in : List ℕ → NewName → List ℕ
name_in bytes n = spanned bytes n.name

-- bytes in the order of slices
abbrev pub compared : List ℕ → List ℕ → Ordering
compared s t = slice_cmp nat_cmp s t

-- the name of the node at place i of the order
abbrev pub name_at : List (List ℕ) → List ℕ → ℕ → List ℕ
name_at texts order i = slice_index_or texts (slice_index order i) []

abbrev pub Named : List (List ℕ) → Type 0
Named texts = (n : ℕ) → n < length texts → Between 1 64 (length (slice_index_or texts n []))

abbrev pub InsideOf : List (List ℕ) → List ℕ → Type 0
InsideOf texts order = (i : ℕ) → i < length order → slice_index order i < length texts

abbrev pub Ascending : List (List ℕ) → List ℕ → Type 0
Ascending texts order = (i j : ℕ) → (i < j) × (j < length order) → is_lt (compared (name_at texts order i) (name_at texts order j)) ≡ true

abbrev pub Complete : List (List ℕ) → List ℕ → Type 0
Complete texts order = (n : ℕ) → n < length texts → any (nat_eq n) order ≡ true

-- the order holds every node once, by ascending names
pub record Indexed (texts : List (List ℕ)) (order : List ℕ) : Type 0 where
  pub as_many : length order ≡ length texts
  pub named : Named texts
  pub inside : InsideOf texts order
  pub ascending : Ascending texts order
  pub complete : Complete texts order

-- the names before place i are less than t, and those from it on are greater
pub record Parts (texts : List (List ℕ)) (order : List ℕ) (t : List ℕ) (i : ℕ) : Type 0 where
  pub high : i ≤ length order
  pub below : (k : ℕ) → k < i → compared (name_at texts order k) t ≡ Less
  pub above : (k : ℕ) → i ≤ k → k < length order → compared (name_at texts order k) t ≡ Greater

pub record Stands (texts : List (List ℕ)) (order : List ℕ) (t : List ℕ) (i : ℕ) : Type 0 where
  pub high : i < length order
  pub here : name_at texts order i ≡ t

abbrev pub Placed : List (List ℕ) → List ℕ → List ℕ → Result ℕ ℕ → Type 0
Placed texts order t (Ok i) = Stands texts order t i
Placed texts order t (Err i) = Parts texts order t i

-- a name that may be put into the order at i
pub record Fresh (texts : List (List ℕ)) (order : List ℕ) (t : List ℕ) (i : ℕ) : Type 0 where
  pub sized : Between 1 64 (length t)
  pub parts : Parts texts order t i
