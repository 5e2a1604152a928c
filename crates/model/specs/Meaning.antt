-- Which rows a request has, what they carry and how they stand, as relations over the request and the tree alone.
-- No function that computes rows is used. Assumes nothing.
use Rattle.std.specs.Prelude.{◌≡◌, ℕ, suc, ◌<◌, ◌≤◌, ◌⊎◌, ◌↔◌, List, [], ◌∷◌, length, Some, None, codes, Option, ◌≢◌}
use mathlib.Core.List.{Memᴰ}
use Rattle.model.specs.declared.decision.Decision.TheVariants.{Indeterminate}
use Rattle.model.specs.declared.decision.Status.TheVariants.{SyntaxError, ProcessingError}
use Rattle.model.specs.declared.decision.Cause.{Cause}
use Rattle.model.specs.declared.decision.Cause.TheVariants.{UnknownTag, SeveralScopes, BadScope, NoSingleResourceId, UnknownNode}
use Rattle.model.specs.Content.{Attribute, Element, Request}
use Rattle.model.specs.Values.{Same}
use Rattle.model.specs.Order.{Sorted}
use Rattle.model.specs.Lists.{At, Pairwise}
use Rattle.model.specs.Tree.{Tree, Distance, NodeBefore, Extent, children, descendants}
use Rattle.model.specs.Points.{Point}
use Rattle.model.specs.Rows.{Basis, fault, single, Row}

-- WHAT A REFERENCE LISTS

-- the element of number n carries the tag t
abbrev pub Names : Request → ℕ → ℕ → Type 0
Names q t n = (e : Element) × At n e q.elements × (e.tag ≡ Some t)

-- reference r lists the elements of these numbers, in this order
pub data Lists (q : Request) : ℕ → List ℕ → Type 0 where
  every_element : {ns : List ℕ} → q.references ≡ None
      → ((p n : ℕ) → At p n ns ↔ ((n ≡ p) × (p < length q.elements))) → Lists q 0 ns
  by_tags : {references : List (List ℕ)} {tags ns : List ℕ} {r : ℕ} → q.references ≡ Some references → At r tags references
      → Pairwise (Names q) tags ns → Lists q r ns

-- position p of reference r holds its first tag that names no element
pub data IsUnknownTag (q : Request) : ℕ → ℕ → Type 0 where
  unnamed : {references : List (List ℕ)} {tags : List ℕ} {r p t : ℕ} → q.references ≡ Some references → At r tags references → At p t tags
      → ((n : ℕ) → Names q t n → ⊥) → ((i u : ℕ) → i < p → At i u tags → (n : ℕ) × Names q u n) → IsUnknownTag q r p

-- CATEGORIES AND CHOICES, of the elements of numbers ns

-- the element that is listed at position p
abbrev pub ListedAt : Request → List ℕ → ℕ → ℕ → Element → Type 0
ListedAt q ns p n e = At p n ns × At n e q.elements

-- position p has category c
abbrev pub Has : Request → List ℕ → ℕ → ℕ → Type 0
Has q ns c p = (n : ℕ) × ((e : Element) × ListedAt q ns p n e × (e.category ≡ c))

-- category c first appears at position p
abbrev pub First : Request → List ℕ → ℕ → ℕ → Type 0
First q ns c p = Has q ns c p × ((i : ℕ) → i < p → Has q ns c i → ⊥)

-- the categories, by first appearance
pub record Categories (q : Request) (ns cs : List ℕ) : Type 0 where
  pub appear : (k c : ℕ) → At k c cs → (p : ℕ) × First q ns c p
  pub all : (c p : ℕ) → Has q ns c p → (k : ℕ) × At k c cs
  pub in_order : (j k c d p r : ℕ) → At j c cs → At k d cs → j < k → First q ns c p → First q ns d r → p < r

-- of the positions below p, i have category c
pub data Earlier (q : Request) (ns : List ℕ) (c : ℕ) : ℕ → ℕ → Type 0 where
  none_yet : Earlier q ns c 0 0
  one_more : {p i : ℕ} → Earlier q ns c p i → Has q ns c p → Earlier q ns c (suc p) (suc i)
  another : {p i d : ℕ} → Earlier q ns c p i → Has q ns d p → (d ≢ c) → Earlier q ns c (suc p) i

-- position p is that of the i-th element of category c
abbrev pub Nth : Request → List ℕ → ℕ → ℕ → ℕ → Type 0
Nth q ns c i p = Has q ns c p × Earlier q ns c p i

-- for each category, one position among its elements
pub record Choice (q : Request) (ns cs ps : List ℕ) : Type 0 where
  pub categories : Categories q ns cs
  pub one_for_each : Pairwise (λ c i. (p : ℕ) × Nth q ns c i p) cs ps

-- choices are compared from the first category on
pub data Less : List ℕ → List ℕ → Type 0 where
  at_first : {p q : ℕ} {ps qs : List ℕ} → p < q → Less (p ∷ ps) (q ∷ qs)
  then_on : {p : ℕ} {ps qs : List ℕ} → Less ps qs → Less (p ∷ ps) (p ∷ qs)

-- the chosen positions, in the reference's order
pub record Chosen (q : Request) (ns cs ps chosen : List ℕ) : Type 0 where
  pub ordered : Sorted (λ p r. p < r) chosen
  pub exactly : (p : ℕ) → Memᴰ p chosen ↔ ((k : ℕ) × ((c : ℕ) × ((i : ℕ) × (At k c cs × At k i ps × Nth q ns c i p))))

-- SCOPE

-- no attribute has the id; one has, and this one; two have
pub data Lacks (i : ℕ) : List Attribute → Type 0 where
  nothing : Lacks i []
  other : {a : Attribute} {xs : List Attribute} → (a.id ≢ i) → Lacks i xs → Lacks i (a ∷ xs)

pub data Only (i : ℕ) (a : Attribute) : List Attribute → Type 0 where
  here : {xs : List Attribute} → a.id ≡ i → Lacks i xs → Only i a (a ∷ xs)
  further : {b : Attribute} {xs : List Attribute} → (b.id ≢ i) → Only i a xs → Only i a (b ∷ xs)

pub data Repeats (i : ℕ) (xs : List Attribute) : Type 0 where
  twice : {m n : ℕ} {a b : Attribute} → m < n → At m a xs → At n b xs → a.id ≡ i → b.id ≡ i → Repeats i xs

abbrev pub word : Extent → List ℕ
word children = codes "Children"
word descendants = codes "Descendants"

-- the one scope attribute is a string that says so; 2 is scope, 1 is string
pub record Scoped (e : Element) (x : Extent) : Type 0 where
  pub scope : Attribute
  pub only : Only 2 scope e.attributes
  pub string : scope.type ≡ 1
  pub value : Same scope.value (word x)

-- node n has the name
pub record NodeOf (tree : Tree) (t : List ℕ) (n : ℕ) : Type 0 where
  pub name : List ℕ
  pub at : At n name tree.names
  pub same : Same name t

-- what is wrong with a resource element; 1 is resource-id
pub data Fault (tree : Tree) (e : Element) : Cause → Type 0 where
  several_scopes : Repeats 2 e.attributes → Fault tree e SeveralScopes
  not_a_string : {s : Attribute} → Only 2 s e.attributes → (s.type ≢ 1) → Fault tree e BadScope
  no_such_scope : {s : Attribute} → Only 2 s e.attributes → (Same s.value (codes "Immediate") → ⊥)
      → ((x : Extent) → Same s.value (word x) → ⊥) → Fault tree e BadScope
  no_resource_id : {x : Extent} → Scoped e x → Lacks 1 e.attributes → Fault tree e NoSingleResourceId
  several_resource_ids : {x : Extent} → Scoped e x → Repeats 1 e.attributes → Fault tree e NoSingleResourceId
  no_such_node : {x : Extent} {a : Attribute} → Scoped e x → Only 1 a e.attributes
      → ((n : ℕ) → NodeOf tree a.value n → ⊥) → Fault tree e UnknownNode

-- it stands for itself
pub data Alone (e : Element) : Type 0 where
  no_scope : Lacks 2 e.attributes → Alone e
  immediate : {s : Attribute} → Only 2 s e.attributes → s.type ≡ 1 → Same s.value (codes "Immediate") → Alone e

-- it asks for what is reached from node n
pub data Asks (tree : Tree) (e : Element) : Extent → ℕ → Type 0 where
  asks : {x : Extent} {a : Attribute} {n : ℕ} → Scoped e x → Only 1 a e.attributes → NodeOf tree a.value n → Asks tree e x n

-- how far it reaches
abbrev pub InExtent : Extent → ℕ → Type 0
InExtent children d = d ≤ 1
InExtent descendants d = Unit {0}

-- THE SINGLE REQUEST

-- an element as it stands, without its tag
pub record Bare (e b : Element) : Type 0 where
  pub category : b.category ≡ e.category
  pub tag : b.tag ≡ None
  pub attributes : b.attributes ≡ e.attributes

pub record Renamed (name : List ℕ) (a b : Attribute) : Type 0 where
  pub included : b.included ≡ a.included
  pub id : b.id ≡ a.id
  pub type : b.type ≡ a.type
  pub issuer : b.issuer ≡ a.issuer
  pub value : b.value ≡ name

-- attributes for a node: the scope goes, the resource-id has the node's name, the others stay
pub data ForNode (name : List ℕ) : List Attribute → List Attribute → Type 0 where
  nothing : ForNode name [] []
  scope_goes : {a : Attribute} {xs ys : List Attribute} → a.id ≡ 2 → ForNode name xs ys → ForNode name (a ∷ xs) ys
  id_renamed : {a b : Attribute} {xs ys : List Attribute} → a.id ≡ 1 → Renamed name a b → ForNode name xs ys
      → ForNode name (a ∷ xs) (b ∷ ys)
  stays : {a : Attribute} {xs ys : List Attribute} → (a.id ≢ 1) → (a.id ≢ 2) → ForNode name xs ys
      → ForNode name (a ∷ xs) (a ∷ ys)

pub data AtNode (name : List ℕ) (e b : Element) : Type 0 where
  resource : e.category ≡ 1 → b.category ≡ 1 → b.tag ≡ None → ForNode name e.attributes b.attributes → AtNode name e b
  elsewhere : (e.category ≢ 1) → Bare e b → AtNode name e b

-- ROWS

-- a choice of reference r, and the elements chosen, with their numbers, in the reference's order
pub record Chooses (q : Request) (r : ℕ) (ps : List ℕ) (es : List (ℕ × Element)) : Type 0 where
  pub listed : List ℕ
  pub categories : List ℕ
  pub chosen : List ℕ
  pub lists : Lists q r listed
  pub choice : Choice q listed categories ps
  pub picks : Chosen q listed categories ps chosen
  pub elements : Pairwise (λ p e. ListedAt q listed p e.0 e.1) chosen es

abbrev pub NoResource : List (ℕ × Element) → Type 0
NoResource es = (e : ℕ × Element) → Memᴰ e es → e.1.category ≢ 1

abbrev pub Resource : List (ℕ × Element) → ℕ → Element → Type 0
Resource es n e = Memᴰ (n, e) es × (e.category ≡ 1)

-- each element as it stands
abbrev pub PutBare : List (ℕ × Element) → List Element → Type 0
PutBare es bs = Pairwise (λ e b. Bare e.1 b) es bs

-- each element as it is put for a node of that name
abbrev pub PutNamed : List ℕ → List (ℕ × Element) → List Element → Type 0
PutNamed name es bs = Pairwise (λ e b. AtNode name e.1 b) es bs

-- where a row stands: reference, choice, node and distance, 0 where there is no node
pub record Stand : Type 0 where
  pub reference : ℕ
  pub choice : Option (List ℕ)
  pub node : Option ℕ
  pub distance : ℕ

abbrev pub stand : ℕ → Option (List ℕ) → Option ℕ → ℕ → Stand
stand r ps n d = record { reference = r; choice = ps; node = n; distance = d }

-- which stands there are, and what a row there rests on
pub data Stands (q : Request) (tree : Tree) : Stand → Basis → Type 0 where
  bad_reference : {r p : ℕ} → IsUnknownTag q r p → Stands q tree (stand r None None 0) (fault UnknownTag p)
  bad_scope : {r n : ℕ} {c : Cause} {ps : List ℕ} {es : List (ℕ × Element)} {e : Element} → Chooses q r ps es → Resource es n e → Fault tree e c
      → Stands q tree (stand r (Some ps) None 0) (fault c n)
  without_resource : {r : ℕ} {ps : List ℕ} {es : List (ℕ × Element)} {bs : List Element} → Chooses q r ps es → NoResource es → PutBare es bs
      → Stands q tree (stand r (Some ps) None 0) (single bs)
  without_node : {r n : ℕ} {ps : List ℕ} {es : List (ℕ × Element)} {e : Element} {bs : List Element} → Chooses q r ps es → Resource es n e → Alone e
      → PutBare es bs → Stands q tree (stand r (Some ps) None 0) (single bs)
  at_node : {r n a m d : ℕ} {ps : List ℕ} {es : List (ℕ × Element)} {e : Element} {x : Extent} {name : List ℕ} {bs : List Element}
      → Chooses q r ps es → Resource es n e → Asks tree e x a → Distance tree a m d → InExtent x d
      → At m name tree.names → PutNamed name es bs → Stands q tree (stand r (Some ps) (Some m) d) (single bs)

-- what a row carries besides its stand
pub data Carries (point : Point) (row : Row) : Basis → Type 0 where
  syntax_error : {c : Cause} {p : ℕ} → (c ≢ UnknownNode) → row.decision ≡ Indeterminate → row.status ≡ SyntaxError → row.cause ≡ Some c
      → row.place ≡ p → Carries point row (fault c p)
  processing_error : {p : ℕ} → row.decision ≡ Indeterminate → row.status ≡ ProcessingError → row.cause ≡ Some UnknownNode
      → row.place ≡ p → Carries point row (fault UnknownNode p)
  answered : {es : List Element} → row.decision ≡ (point es).decision → row.status ≡ (point es).status → row.cause ≡ None
      → row.place ≡ (point es).place → Carries point row (single es)

-- a row of the request, at its stand, with what it rests on
pub record RowOf (q : Request) (tree : Tree) (point : Point) (row : Row) (s : Stand) (b : Basis) : Type 0 where
  pub stands : Stands q tree s b
  pub reference : row.reference ≡ s.reference
  pub choice : row.choice ≡ s.choice
  pub node : row.node ≡ s.node
  pub carries : Carries point row b

-- by reference, then by choice, then by distance, then by the order of nodes
pub data Before (tree : Tree) (s t : Stand) : Type 0 where
  by_reference : s.reference < t.reference → Before tree s t
  by_choice : {ps qs : List ℕ} → s.reference ≡ t.reference → s.choice ≡ Some ps → t.choice ≡ Some qs → Less ps qs → Before tree s t
  by_distance : s.reference ≡ t.reference → s.choice ≡ t.choice → s.distance < t.distance → Before tree s t
  by_node : {m n : ℕ} → s.reference ≡ t.reference → s.choice ≡ t.choice → s.distance ≡ t.distance
      → s.node ≡ Some m → t.node ≡ Some n → NodeBefore tree m n → Before tree s t

-- these rows are the first of the request's: they stand in order, each is one of the request's and stands there once,
-- and each of the request's is among them or after them all
pub record FirstRows (q : Request) (tree : Tree) (point : Point) (given : List Row) : Type 0 where
  pub standing : List (Row × Stand)
  pub these : Pairwise (λ r s. r ≡ s.0) given standing
  pub in_order : Sorted (λ x y. Before tree x.1 y.1) standing
  pub sound : (s : Row × Stand) → Memᴰ s standing → (b : Basis) × RowOf q tree point s.0 s.1 b
  pub none_twice : Sorted (λ r s. r ≢ s) given
  pub complete : (row : Row) (s : Stand) (b : Basis) → RowOf q tree point row s b
      → Memᴰ (row, s) standing ⊎ ((t : Row × Stand) → Memᴰ t standing → Before tree t.1 s)

-- all of them
pub record AllRows (q : Request) (tree : Tree) (point : Point) (given : List Row) : Type 0 where
  pub first : FirstRows q tree point given
  pub none_missing : (row : Row) (s : Stand) (b : Basis) → RowOf q tree point row s b → Memᴰ row given
