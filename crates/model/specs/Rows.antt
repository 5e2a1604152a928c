-- From a request to its rows, computed. Meaning.antt says the same as relations. Assumes nothing.
use Rattle.std.specs.Prelude.{ℕ, ◌+◌, Bool, false, cond, not, List, [], ◌∷◌, ◌++◌, map, length, Some, None, codes, Option, ◌==◌, nat_eq, slice_index_or}
use Rattle.std.specs.List.{flat_map}
use Rattle.model.specs.declared.decision.Decision.{Decision}
use Rattle.model.specs.declared.decision.Decision.TheVariants.{Indeterminate}
use Rattle.model.specs.declared.decision.Status.{Status}
use Rattle.model.specs.declared.decision.Status.TheVariants.{SyntaxError, ProcessingError}
use Rattle.model.specs.declared.decision.Cause.{Cause}
use Rattle.model.specs.declared.decision.Cause.TheVariants.{UnknownTag, SeveralScopes, BadScope, NoSingleResourceId, UnknownNode}
use Rattle.model.specs.Content.{Attribute, Element, Request, is_tag}
use Rattle.model.specs.Spelling.{spell_request}
use Rattle.model.specs.Values.{same}
use Rattle.model.specs.Lists.{upto, any, keep, found}
use Rattle.model.specs.Tree.{Tree, node_named, Extent, children, descendants, reached}
use Rattle.model.specs.Points.{Answer, answers, Point}

-- WHAT A REFERENCE LISTS

-- an element with its number in the request
pub record Listed : Type 0 where
  pub number : ℕ
  pub element : Element

abbrev pub numbers_from : ℕ → List Element → List Listed
numbers_from n [] = []
numbers_from n (e ∷ es) = record { number = n; element = e } ∷ numbers_from (n + 1) es

abbrev pub all_listed : Request → List Listed
all_listed q = numbers_from 0 q.elements

abbrev pub carries : ℕ → Listed → Bool
carries t l = is_tag t l.element.tag

pub data Listing : Type 0 where
  lists : List Listed → Listing
  -- the position of the first tag that names no element
  unknown : ℕ → Listing

abbrev pub before : Listed → Listing → Listing
before l (lists ls) = lists (l ∷ ls)
before l (unknown p) = unknown p

-- what the tag at position p names, if anything, before what the tags after it name
abbrev pub listed_next : ℕ → Option Listed → Listing → Listing
listed_next p None rest = unknown p
listed_next p (Some l) rest = before l rest

-- what tags from position p on list
abbrev pub listing : List Listed → ℕ → List ℕ → Listing
listing es p [] = lists []
listing es p (t ∷ ts) = listed_next p (found (carries t) es) (listing es (p + 1) ts)

abbrev pub listings_by : List Listed → Option (List (List ℕ)) → List Listing
listings_by es None = lists es ∷ []
listings_by es (Some references) = map (listing es 0) references

-- one for each reference, by its number
abbrev pub listings : Request → List Listing
listings q = listings_by (all_listed q) q.references

-- CATEGORIES AND CHOICES

abbrev pub category_of : Listed → ℕ
category_of l = l.element.category

abbrev pub of_category : ℕ → Listed → Bool
of_category c l = category_of l == c

-- the categories by first appearance, without those seen
abbrev pub categories : List ℕ → List Listed → List ℕ
categories seen [] = []
categories seen (l ∷ ls) =
    cond (any (nat_eq (category_of l)) seen) (categories seen ls) (category_of l ∷ categories (category_of l ∷ seen) ls)

-- how many elements a category has
abbrev pub width : List Listed → ℕ → ℕ
width ls c = length (keep (of_category c) ls)

abbrev pub widths : List Listed → List ℕ
widths ls = map (width ls) (categories [] ls)

abbrev pub each_after : List (List ℕ) → ℕ → List (List ℕ)
each_after cs p = map (λ c. p ∷ c) cs

-- one position for each category, in the order of comparison from the first category on
abbrev pub choices : List ℕ → List (List ℕ)
choices [] = [] ∷ []
choices (w ∷ ws) = flat_map (each_after (choices ws)) (upto 0 w)

-- the position that a choice takes for a category
abbrev pub taken : List ℕ → List ℕ → ℕ → ℕ
taken [] ps c = 0
taken (k ∷ ks) [] c = 0
taken (k ∷ ks) (p ∷ ps) c = cond (k == c) p (taken ks ps c)

abbrev pub occurrences : ℕ → List ℕ → ℕ
occurrences c [] = 0
occurrences c (x ∷ xs) = cond (x == c) (1 + occurrences c xs) (occurrences c xs)

-- whether an element is at the position taken of its category; `earlier` has the categories of the elements before it
abbrev pub in_turn : List ℕ → List ℕ → List ℕ → Listed → Bool
in_turn cs ps earlier l = occurrences (category_of l) earlier == taken cs ps (category_of l)

abbrev pub picked : List ℕ → List ℕ → List ℕ → List Listed → List Listed
picked cs ps earlier [] = []
picked cs ps earlier (l ∷ ls) =
    cond (in_turn cs ps earlier l) (l ∷ picked cs ps (category_of l ∷ earlier) ls) (picked cs ps (category_of l ∷ earlier) ls)

-- the chosen elements, in the reference's order
abbrev pub chosen : List Listed → List ℕ → List Listed
chosen ls ps = picked (categories [] ls) ps [] ls

-- SCOPE; category 1 is the resource, id 1 resource-id, id 2 scope, type 1 string

-- what a resource element asks for
pub data Scope : Type 0 where
  faulty : Cause → Scope
  -- the element as it stands
  itself : Scope
  -- what is reached from a node
  below : Extent → ℕ → Scope

abbrev pub has_id : ℕ → Attribute → Bool
has_id i a = a.id == i

abbrev pub with_id : ℕ → List Attribute → List Attribute
with_id i attributes = keep (has_id i) attributes

abbrev pub asked_at : Extent → Option ℕ → Scope
asked_at x None = faulty UnknownNode
asked_at x (Some n) = below x n

-- from the node that the one resource-id names
abbrev pub asked : Tree → Extent → List Attribute → Scope
asked tree x [] = faulty NoSingleResourceId
asked tree x (a ∷ []) = asked_at x (node_named tree a.value)
asked tree x (a ∷ b ∷ more) = faulty NoSingleResourceId

-- by the resource-ids and the scopes
abbrev pub scope_by_attributes : Tree → List Attribute → List Attribute → Scope
scope_by_attributes tree ids [] = itself
scope_by_attributes tree ids (s ∷ []) =
    cond (not (s.type == 1)) (faulty BadScope)
    (cond (same s.value (codes "Immediate")) itself
    (cond (same s.value (codes "Children")) (asked tree children ids)
    (cond (same s.value (codes "Descendants")) (asked tree descendants ids) (faulty BadScope))))
scope_by_attributes tree ids (s ∷ t ∷ more) = faulty SeveralScopes

abbrev pub scope : Tree → Element → Scope
scope tree e = scope_by_attributes tree (with_id 1 e.attributes) (with_id 2 e.attributes)

-- THE SINGLE REQUEST

abbrev pub bare : Element → Element
bare e = record { category = e.category; tag = None; attributes = e.attributes }

abbrev pub with_value : List ℕ → Attribute → Attribute
with_value t a = record { included = a.included; id = a.id; type = a.type; issuer = a.issuer; value = t }

abbrev pub named : List ℕ → Attribute → Attribute
named t a = cond (has_id 1 a) (with_value t a) a

abbrev pub not_scope : Attribute → Bool
not_scope a = not (has_id 2 a)

-- the resource for a node of that name: no scope, and the name for its resource-id
abbrev pub resource_named : List ℕ → Element → Element
resource_named t e = record { category = 1; tag = None; attributes = map (named t) (keep not_scope e.attributes) }

abbrev pub for_node : List ℕ → Element → Element
for_node t e = cond (e.category == 1) (resource_named t e) (bare e)

abbrev pub put_bare : Listed → Element
put_bare l = bare l.element

abbrev pub put_named : List ℕ → Listed → Element
put_named t l = for_node t l.element

-- what is put to the decision point for chosen elements and a node, if any
abbrev pub single_request : Tree → Option ℕ → List Listed → List Element
single_request tree None ls = map put_bare ls
single_request tree (Some n) ls = map (put_named (slice_index_or tree.names n [])) ls

-- the request of such elements alone, and its bytes
abbrev pub request_of : List Element → Request
request_of es = record { combined = false; elements = es; references = None }

abbrev pub single_bytes : List Element → List ℕ
single_bytes es = spell_request (request_of es)

-- WHERE ROWS STAND, AND WHAT THEY REST ON

pub data Basis : Type 0 where
  -- a cause and its place
  fault : Cause → ℕ → Basis
  -- the single request that is put to the decision point
  single : List Element → Basis

pub record Spot : Type 0 where
  pub reference : ℕ
  pub choice : Option (List ℕ)
  pub node : Option ℕ
  pub basis : Basis

abbrev pub single_spot : Tree → ℕ → List ℕ → List Listed → Option ℕ → Spot
single_spot tree r ps ls n = record { reference = r; choice = Some ps; node = n; basis = single (single_request tree n ls) }

abbrev pub fault_spot : ℕ → Option (List ℕ) → Cause → ℕ → Spot
fault_spot r ps cause place = record { reference = r; choice = ps; node = None; basis = fault cause place }

abbrev pub node_spot : Tree → ℕ → List ℕ → List Listed → ℕ → Spot
node_spot tree r ps ls n = single_spot tree r ps ls (Some n)

abbrev pub scope_spots : Tree → ℕ → List ℕ → List Listed → ℕ → Scope → List Spot
scope_spots tree r ps ls place (faulty cause) = fault_spot r (Some ps) cause place ∷ []
scope_spots tree r ps ls place itself = single_spot tree r ps ls None ∷ []
scope_spots tree r ps ls place (below x a) = map (node_spot tree r ps ls) (reached tree x a)

-- by the resource among the chosen elements, if there is one
abbrev pub resource_spots : Tree → ℕ → List ℕ → List Listed → Option Listed → List Spot
resource_spots tree r ps ls None = single_spot tree r ps ls None ∷ []
resource_spots tree r ps ls (Some l) = scope_spots tree r ps ls l.number (scope tree l.element)

abbrev pub resource : List Listed → Option Listed
resource ls = found (of_category 1) ls

abbrev pub choice_spots : Tree → ℕ → List Listed → List ℕ → List Spot
choice_spots tree r ls ps = resource_spots tree r ps (chosen ls ps) (resource (chosen ls ps))

abbrev pub reference_spots : Tree → ℕ → Listing → List Spot
reference_spots tree r (unknown p) = fault_spot r None UnknownTag p ∷ []
reference_spots tree r (lists ls) = flat_map (choice_spots tree r ls) (choices (widths ls))

abbrev pub spots_from : Tree → ℕ → List Listing → List Spot
spots_from tree r [] = []
spots_from tree r (l ∷ ls) = reference_spots tree r l ++ spots_from tree (r + 1) ls

abbrev pub spots : Request → Tree → List Spot
spots q tree = spots_from tree 0 (listings q)

-- ROWS

pub record Row : Type 0 where
  pub reference : ℕ
  pub choice : Option (List ℕ)
  pub node : Option ℕ
  pub decision : Decision
  pub status : Status
  pub cause : Option Cause
  pub place : ℕ

abbrev pub status_of_fault : Cause → Status
status_of_fault UnknownTag = SyntaxError
status_of_fault SeveralScopes = SyntaxError
status_of_fault BadScope = SyntaxError
status_of_fault NoSingleResourceId = SyntaxError
status_of_fault UnknownNode = ProcessingError

abbrev pub decided : Point → Basis → Answer
decided point (fault cause place) = answers Indeterminate (status_of_fault cause) place
decided point (single es) = point es

abbrev pub cause_of : Basis → Option Cause
cause_of (fault cause place) = Some cause
cause_of (single es) = None

abbrev pub row_at_spot : Point → Spot → Row
row_at_spot point s =
    let a = decided point s.basis in
    record {
      reference = s.reference;
      choice = s.choice;
      node = s.node;
      decision = a.decision;
      status = a.status;
      cause = cause_of s.basis;
      place = a.place;
    }

abbrev pub rows : Request → Tree → Point → List Row
rows q tree point = map (row_at_spot point) (spots q tree)
