-- The requests that bytes can hold, and the bytes that hold each. Assumes nothing.
use Rattle.std.specs.Prelude.{◌≡◌, ℕ, ◌+◌, ◌≤◌, Bool, true, false, cond, not, ◌↔◌, List, [], ◌∷◌, ◌++◌, length, Some, None, Ok, Option, ◌==◌, ◌≢◌}
use Rattle.std.specs.List.{flat_map, AllByRecursion}
use Rattle.model.specs.Order.{Sorted}
use Rattle.model.specs.Content.{Attribute, Element, Request, read_request}

-- WELL-FORMED CONTENTS

abbrev pub Between : ℕ → ℕ → ℕ → Type 0
Between low high n = (low ≤ n) × (n ≤ high)

abbrev pub WhenSome : {X : Type 0} → (X → Type 0) → Option X → Type 0
WhenSome P None = Unit {0}
WhenSome P (Some x) = P x

pub record AttributeFits (a : Attribute) : Type 0 where
  pub id : Between 1 255 a.id
  pub type : Between 1 255 a.type
  pub issuer : WhenSome (λ t. Between 1 64 (length t)) a.issuer
  pub value : length a.value ≤ 64

pub record ElementFits (e : Element) : Type 0 where
  pub category : Between 1 255 e.category
  pub tag : WhenSome (Between 1 255) e.tag
  pub few : length e.attributes ≤ 8
  pub attributes : AllByRecursion AttributeFits e.attributes

pub record ReferenceFits (tags : List ℕ) : Type 0 where
  pub as_many : Between 1 16 (length tags)
  pub each : AllByRecursion (Between 1 255) tags

pub record ReferencesFit (references : List (List ℕ)) : Type 0 where
  pub as_many : Between 1 16 (length references)
  pub each : AllByRecursion ReferenceFits references

-- no tag is carried by both
abbrev pub OtherTag : Element → Element → Type 0
OtherTag e f = (t : ℕ) → e.tag ≡ Some t → f.tag ≢ Some t

pub record RequestFits (q : Request) : Type 0 where
  pub as_many : Between 1 16 (length q.elements)
  pub elements : AllByRecursion ElementFits q.elements
  pub tags : Sorted OtherTag q.elements
  pub references : WhenSome ReferencesFit q.references

-- THEIR SPELLING

abbrev pub flag : Bool → ℕ → ℕ
flag b n = cond b n 0

module _ {X : Type 0} where
  abbrev pub is_there : Option X → Bool
  is_there None = false
  is_there (Some x) = true

  abbrev pub is_any : List X → Bool
  is_any [] = false
  is_any (x ∷ xs) = true

  -- nothing, or how what is there is spelled
  abbrev pub spell_some : (X → List ℕ) → Option X → List ℕ
  spell_some f None = []
  spell_some f (Some x) = f x

  -- a count and as many items
  abbrev pub spell_list : (X → List ℕ) → List X → List ℕ
  spell_list f xs = length xs ∷ flat_map f xs

abbrev pub spell_text : List ℕ → List ℕ
spell_text t = length t ∷ t

abbrev pub spell_code : ℕ → List ℕ
spell_code n = n ∷ []

-- a type other than string
abbrev pub typed : Attribute → Bool
typed a = not (a.type == 1)

abbrev pub spell_attribute : Attribute → List ℕ
spell_attribute a =
    (flag (typed a) 1 + flag (is_there a.issuer) 2 + flag a.included 4) ∷ a.id
    ∷ (cond (typed a) (spell_code a.type) [] ++ (spell_some spell_text a.issuer ++ spell_text a.value))

abbrev pub spell_element : Element → List ℕ
spell_element e =
    (flag (is_there e.tag) 1 + flag (is_any e.attributes) 2) ∷ e.category
    ∷ (spell_some spell_code e.tag ++ cond (is_any e.attributes) (spell_list spell_attribute e.attributes) [])

abbrev pub spell_reference : List ℕ → List ℕ
spell_reference tags = spell_list spell_code tags

abbrev pub spell_request : Request → List ℕ
spell_request q =
    (flag q.combined 1 + flag (is_there q.references) 2)
    ∷ (cond q.combined (spell_code 1) [] ++ (spell_list spell_element q.elements ++ spell_some (spell_list spell_reference) q.references))

-- the bytes are the spelling of this well-formed request
abbrev pub SpellingOf : List ℕ → Request → Type 0
SpellingOf bytes q = RequestFits q × (bytes ≡ spell_request q)

-- bytes are accepted as a request exactly where they are the spelling of a well-formed one, and that is the one read
abbrev pub AcceptedExactly : Type 0
AcceptedExactly = (bytes : List ℕ) (q : Request) → (read_request bytes ≡ Ok q) ↔ SpellingOf bytes q
