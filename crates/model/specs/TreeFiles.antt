-- The two tree files, their layout and the trees that they give. Assumes nothing.
use Rattle.std.specs.Prelude.{◌≡◌, ℕ, Bool, true, false, cond, not, ◌&&◌, ◌||◌, ◌⊎◌, List, [], ◌∷◌, length, Ok, Result, ◌==◌, nat_eq, nat_le, nat_lt, slice_index_or}
use Rattle.model.specs.declared.item.Kind.TheVariants as kind
use Rattle.model.specs.Layout.{Refusal, Reader, ◌>>=◌, give, unless, within, many, file, text, wide}
use Rattle.model.specs.Values.{same}
use Rattle.model.specs.Lists.{any}
use Rattle.model.specs.Tree.{Tree, Limits}

-- NAMES

abbrev pub among : List (List ℕ) → List ℕ → Bool
among [] t = false
among (x ∷ xs) t = same x t || among xs t

-- a name that the file may have, 18 where it may not, and that none of the earlier ones is, 16 where one is; both at its length byte
abbrev pub new_name : (List ℕ → Bool) → List (List ℕ) → Reader (List ℕ)
new_name wrong earlier = unless (among earlier) 16 (unless wrong 18 (text 1 64))

abbrev pub one_name : (List ℕ → Bool) → ℕ → List (List ℕ) → Reader (List ℕ)
one_name wrong i earlier = within kind.Name i (new_name wrong earlier)

abbrev pub name_list : (List ℕ → Bool) → Reader (List (List ℕ))
name_list wrong = wide 0 1024 >>= many (one_name wrong)

-- THE LINKED TREE

abbrev pub any_name : List ℕ → Bool
any_name t = false

-- a node's number, below how many there are; 17 where it is not
abbrev pub node_number : ℕ → Reader ℕ
node_number nodes = unless (λ n. nat_le nodes n) 17 (wide 0 65535)

abbrev pub link_fields : ℕ → Reader (ℕ × ℕ)
link_fields nodes = do
  parent ← node_number nodes
  child ← node_number nodes
  give (parent, child)

abbrev pub one_link : ℕ → ℕ → List (ℕ × ℕ) → Reader (ℕ × ℕ)
one_link nodes i earlier = within kind.Link i (link_fields nodes)

abbrev pub link_list : ℕ → Reader (List (ℕ × ℕ))
link_list nodes = wide 0 4096 >>= many (one_link nodes)

abbrev pub has_link : List (ℕ × ℕ) → ℕ → ℕ → Bool
has_link [] parent child = false
has_link (l ∷ ls) parent child = (l.0 == parent && l.1 == child) || has_link ls parent child

abbrev pub linked_tree : List (List ℕ) → List (ℕ × ℕ) → Tree
linked_tree names links = record { names = names; linked = has_link links }

abbrev pub linked_tree_fields : Reader Tree
linked_tree_fields = do
  names ← name_list any_name
  links ← link_list (length names)
  give (linked_tree names links)

abbrev pub read_linked_tree : List ℕ → Result Tree Refusal
read_linked_tree = file linked_tree_fields

-- THE PATH TREE

-- the byte between segments
abbrev pub separator : ℕ
separator = 0x2F

-- whether a segment is empty; `fresh` where one has just begun
abbrev pub hollow : Bool → List ℕ → Bool
hollow fresh [] = fresh
hollow fresh (b ∷ bs) = cond (b == separator) (fresh || hollow true bs) (hollow false bs)

-- whether the second is the first, one separator and one segment
abbrev pub child_path : List ℕ → List ℕ → Bool
child_path [] [] = false
child_path [] (b ∷ bs) = b == separator && not (any (nat_eq separator) bs) && not (length bs == 0)
child_path (x ∷ xs) [] = false
child_path (x ∷ xs) (y ∷ ys) = x == y && child_path xs ys

abbrev pub linked_by_path : List (List ℕ) → ℕ → ℕ → Bool
linked_by_path names parent child =
    nat_lt parent (length names) && nat_lt child (length names) && child_path (slice_index_or names parent []) (slice_index_or names child [])

abbrev pub path_tree : List (List ℕ) → Tree
path_tree names = record { names = names; linked = linked_by_path names }

abbrev pub path_tree_fields : Reader Tree
path_tree_fields = do
  names ← name_list (hollow true)
  give (path_tree names)

abbrev pub read_path_tree : List ℕ → Result Tree Refusal
read_path_tree = file path_tree_fields

-- WHAT THEY KEEP

-- a tree that a file gives is within the limits
abbrev pub TreeFilesKeepLimits : Type 0
TreeFilesKeepLimits = (bytes : List ℕ) (tree : Tree) → (read_linked_tree bytes ≡ Ok tree) ⊎ (read_path_tree bytes ≡ Ok tree) → Limits tree
