-- What a tree means, and how far its nodes lie apart. Assumes nothing.
use Rattle.std.specs.Prelude.{◌≡◌, ℕ, zero, suc, ◌+◌, ◌<◌, ◌≤◌, Bool, true, cond, not, ◌&&◌, ◌||◌, List, [], ◌∷◌, ◌++◌, length, Some, None, Option, ◌==◌, slice_index_or}
use Rattle.model.specs.Values.{Same, same}
use Rattle.model.specs.Lists.{upto, any, keep}

pub record Tree : Type 0 where
  -- a node's number is the place of its name
  pub names : List (List ℕ)
  -- whether a link leads from one node to another
  pub linked : ℕ → ℕ → Bool

abbrev pub count : Tree → ℕ
count tree = length tree.names

-- the number of the first name that is t, counted from n on
abbrev pub numbered : ℕ → List (List ℕ) → List ℕ → Option ℕ
numbered n [] t = None
numbered n (x ∷ xs) t = cond (same x t) (Some n) (numbered (n + 1) xs t)

abbrev pub node_named : Tree → List ℕ → Option ℕ
node_named tree t = numbered 0 tree.names t

-- WHAT EVERY TREE KEEPS

pub record Limits (tree : Tree) : Type 0 where
  pub few : count tree ≤ 1024
  pub some_bytes : (n : ℕ) → n < count tree → 1 ≤ length (slice_index_or tree.names n [])
  pub few_bytes : (n : ℕ) → n < count tree → length (slice_index_or tree.names n []) ≤ 64
  pub distinct : (m n : ℕ) → m < count tree → n < count tree → Same (slice_index_or tree.names m []) (slice_index_or tree.names n []) → m ≡ n
  pub between_nodes : (m n : ℕ) → tree.linked m n ≡ true → (m < count tree) × (n < count tree)

-- DISTANCE, AS A RELATION

-- d links lead from a to n
pub data Path (tree : Tree) (a : ℕ) : ℕ → ℕ → Type 0 where
  stay : Path tree a a zero
  more : {m n d : ℕ} → Path tree a m d → tree.linked m n ≡ true → Path tree a n (suc d)

-- the least number of links from a to n is d
abbrev pub Distance : Tree → ℕ → ℕ → ℕ → Type 0
Distance tree a n d = Path tree a n d × ((k : ℕ) → Path tree a n k → d ≤ k)

-- of nodes of equal distance, which stands before which; `nodes` has them so
abbrev pub NodeBefore : Tree → ℕ → ℕ → Type 0
NodeBefore tree m n = m < n

-- DISTANCE, COMPUTED

abbrev pub nodes : Tree → List ℕ
nodes tree = upto 0 (count tree)

-- at most k links lead from a to n
abbrev pub near : Tree → ℕ → ℕ → ℕ → Bool
near tree a zero n = n == a
near tree a (suc k) n = near tree a k n || any (λ m. tree.linked m n && near tree a k m) (nodes tree)

abbrev pub at_distance : Tree → ℕ → ℕ → ℕ → Bool
at_distance tree a zero n = n == a
at_distance tree a (suc k) n = near tree a (suc k) n && not (near tree a k n)

-- the nodes at distance d
abbrev pub level : Tree → ℕ → ℕ → List ℕ
level tree a d = keep (at_distance tree a d) (nodes tree)

-- the nodes at n distances from d on
abbrev pub levels : Tree → ℕ → ℕ → ℕ → List ℕ
levels tree a d zero = []
levels tree a d (suc n) = level tree a d ++ levels tree a (d + 1) n

-- WHAT IS REACHED FROM A NODE

pub data Extent : Type 0 where
  -- the node and its children
  children : Extent
  -- the node and every node that links lead to from it
  descendants : Extent

-- how many distances are looked at, 0 among them
abbrev pub depth : Tree → Extent → ℕ
depth tree children = 2
depth tree descendants = count tree

abbrev pub reached : Tree → Extent → ℕ → List ℕ
reached tree x a = levels tree a 0 (depth tree x)
