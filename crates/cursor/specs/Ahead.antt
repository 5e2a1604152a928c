-- Which rows are ahead of a cursor, over a tree and a request, and what each move makes of them. Assumes nothing.
use Rattle.std.specs.Prelude.{◌≡◌, ℕ, ◌+◌, ◌<◌, ◌≤◌, true, List, [], ◌∷◌, ◌++◌, map, length, drop, Some, None, vec_items, Option}
use Rattle.std.specs.Option.{option_map}
use Rattle.std.specs.List.{flat_map}
use Rattle.model.specs.declared.decision.Cause.TheVariants as cause
use Rattle.model.specs.Content.{Request}
use Rattle.model.specs.Tree.{Tree, Extent, reached}
use Rattle.model.specs.Rows.{Listed, listings, choice_spots, spots_from, fault_spot, single_spot, node_spot, Spot}
use Rattle.tree.specs.Reached.{extent_of, nodes_reached}
use Rattle.single.specs.Numbers.{past}
use Rattle.expansion.specs.declared.asked.Exploration.{Exploration}
use Rattle.expansion.specs.Few.{held}
use Rattle.expansion.specs.Listed.{listed_of}
use Rattle.expansion.specs.Choice.{positive, after_choice}
use Rattle.cursor.specs.declared.cursor.Cursor.{Cursor}
use Rattle.cursor.specs.declared.cursor.Stand.{Stand}
use Rattle.cursor.specs.declared.cursor.Stand.TheVariants.{Ended, UnknownTag, Fault, Itself, Node}
use Rattle.cursor.specs.declared.spot.Basis.{Basis}
use Rattle.cursor.specs.declared.spot.Spot.{Spot as ToldSpot}
use Rattle.cursor.specs.Spots.{spot_of, SpotNames}

-- the first of some rows, if there is one, and those after it
abbrev pub next_of : List Spot → Option Spot
next_of [] = None
next_of (s ∷ ss) = Some s

abbrev pub later : List Spot → List Spot
later [] = []
later (s ∷ ss) = ss

-- the nodes reached
abbrev pub nodes_of : Cursor → List ℕ
nodes_of c = nodes_reached (vec_items c.reach.nodes)

-- the spot of a row of the present choice
abbrev pub spot_in : Cursor → Option ℕ → Basis → ToldSpot
spot_in c n b = record { reference = c.reference; choice = Some c.choice; node = n; basis = b }

module _ (q : Request) where
  -- what the present reference lists, and what the present choice takes of it
  abbrev pub listed : Cursor → List Listed
  listed c = listed_of q.elements (held c.listed)

  abbrev pub chosen : Cursor → List Listed
  chosen c = listed_of q.elements (held c.chosen)

-- WHICH ROWS ARE AHEAD

module _ (tree : Tree) (q : Request) where
  -- the rows of the references from r on
  abbrev pub from_reference : ℕ → List Spot
  from_reference r = spots_from tree r (drop r (listings q))

  -- the rows of the present choice
  abbrev pub of_choice : Cursor → List Spot
  of_choice c = choice_spots tree c.reference (listed q c) (held c.choice)

  -- the rows of the choices after the present one, and of the references after the present one
  abbrev pub after_choices : Cursor → List Spot
  after_choices c =
      flat_map (choice_spots tree c.reference (listed q c)) (after_choice (held c.widths) (held c.choice))
      ++ from_reference (c.reference + 1)

  abbrev pub ahead_at : Cursor → Stand → List Spot
  ahead_at c Ended = []
  ahead_at c (UnknownTag p) = fault_spot c.reference None cause.UnknownTag p ∷ from_reference (c.reference + 1)
  ahead_at c (Fault why place) = fault_spot c.reference (Some (held c.choice)) why place ∷ after_choices c
  ahead_at c Itself = single_spot tree c.reference (held c.choice) (chosen q c) None ∷ after_choices c
  ahead_at c (Node i) = map (node_spot tree c.reference (held c.choice) (chosen q c)) (drop i (nodes_of c)) ++ after_choices c

  abbrev pub ahead : Cursor → List Spot
  ahead c = ahead_at c c.stand

-- WHAT HOLDS OF A CURSOR THAT IS MOVED OVER ONE REQUEST AND ONE TREE

-- the nodes reached are those that were explored for
abbrev pub ExploredFor : Tree → List ℕ → Option Exploration → Type 0
ExploredFor tree nodes None = Unit {0}
ExploredFor tree nodes (Some s) = nodes ≡ reached tree (extent_of s.extent) s.node

abbrev pub Explored : Tree → Cursor → Type 0
Explored tree c = ExploredFor tree (nodes_of c) c.explored

module _ (q : Request) where
  -- the present reference and choice are some of the request's
  pub record Choosing (c : Cursor) : Type 0 where
    pub within : c.reference < length (listings q)
    pub named : past (held c.listed) ≤ length q.elements
    pub some : positive (held c.widths) ≡ true
    pub long : length (held c.choice) ≡ length (held c.widths)

  pub record Chosen (c : Cursor) : Type 0 where
    pub choosing : Choosing c
    pub named : past (held c.chosen) ≤ length q.elements

  abbrev pub Stands : Cursor → Stand → Type 0
  Stands c Ended = Unit {0}
  Stands c (UnknownTag p) = c.reference < length (listings q)
  Stands c (Fault why place) = Chosen c
  Stands c Itself = Chosen c
  Stands c (Node i) = Chosen c × (i < length (nodes_of c))

pub record Over (tree : Tree) (q : Request) (c : Cursor) : Type 0 where
  pub explored : Explored tree c
  pub stands : Stands q c c.stand

-- no request that can be opened has more references
abbrev pub FewReferences : Request → Type 0
FewReferences q = length (listings q) ≤ 16

-- WHAT EACH MOVE DOES

-- it stands before these rows
pub record Before (tree : Tree) (q : Request) (rows : List Spot) (c : Cursor) : Type 0 where
  pub over : Over tree q c
  pub ahead : ahead tree q c ≡ rows

-- the present reference and choice are as they were
pub record Unmoved (c d : Cursor) : Type 0 where
  pub reference : d.reference ≡ c.reference
  pub listed : d.listed ≡ c.listed
  pub widths : d.widths ≡ c.widths
  pub choice : d.choice ≡ c.choice

-- the nodes reached are those below this one
pub record Reaches (tree : Tree) (x : Extent) (n : ℕ) (d : Cursor) : Type 0 where
  pub nodes : nodes_of d ≡ reached tree x n
  pub explored : Explored tree d

-- before the first row of the present choice
abbrev pub Settles : Tree → Request → Cursor → Cursor → Type 0
Settles tree q c d = Explored tree c → Choosing q c → Before tree q (of_choice tree q c ++ after_choices tree q c) d

-- before the first row of a reference
abbrev pub Enters : Tree → Request → ℕ → Cursor → Cursor → Type 0
Enters tree q r c d = Explored tree c → Before tree q (from_reference tree q r) d

-- before the first row after the present choice
abbrev pub Leaves : Tree → Request → Cursor → Cursor → Type 0
Leaves tree q c d = FewReferences q → Explored tree c → Choosing q c → Before tree q (after_choices tree q c) d

-- before the row after the next one
abbrev pub Advances : Tree → Request → Cursor → Cursor → Type 0
Advances tree q c d = FewReferences q → Over tree q c → Before tree q (later (ahead tree q c)) d

-- the next row
pub record Tells (tree : Tree) (q : Request) (c : Cursor) (o : Option ToldSpot) : Type 0 where
  pub next : option_map (spot_of tree q.elements) o ≡ next_of (ahead tree q c)
  pub names : SpotNames q.elements o
