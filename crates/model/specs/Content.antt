-- What a request holds, and its layout. Assumes nothing.
use Rattle.std.specs.Prelude.{ℕ, Bool, false, ◌||◌, List, [], ◌∷◌, Some, None, Option, Result, ◌==◌}
use mathlib.Core.List as list
use Rattle.model.specs.declared.item.Kind.TheVariants as kind
use Rattle.model.specs.Layout.{Refusal, Reader, ◌>>=◌, give, when, some, unless, within, many, file, code, flags, bit, text}

pub record Attribute : Type 0 where
  -- marked for inclusion in results
  pub included : Bool
  pub id : ℕ
  -- 1 is string
  pub type : ℕ
  pub issuer : Option (List ℕ)
  pub value : List ℕ

pub record Element : Type 0 where
  pub category : ℕ
  -- by which references name it
  pub tag : Option ℕ
  pub attributes : List Attribute

pub record Request : Type 0 where
  -- whether a verdict over all rows is asked for
  pub combined : Bool
  pub elements : List Element
  -- each a list of tags; none at all is not the same as an empty list of them
  pub references : Option (List (List ℕ))

abbrev pub attribute_fields : Reader Attribute
attribute_fields = do
  m ← flags 7
  id ← code 1 255
  type ← when (bit 0 m) 1 (code 2 255)
  issuer ← when (bit 1 m) None (some (text 1 64))
  value ← text 0 64
  give (record { included = bit 2 m; id = id; type = type; issuer = issuer; value = value })

abbrev pub one_attribute : ℕ → List Attribute → Reader Attribute
one_attribute i before = within kind.Attribute i attribute_fields

abbrev pub attribute_list : Reader (List Attribute)
attribute_list = code 1 8 >>= many one_attribute

abbrev pub is_tag : ℕ → Option ℕ → Bool
is_tag t None = false
is_tag t (Some u) = u == t

abbrev pub carried : ℕ → List (Option ℕ) → Bool
carried t [] = false
carried t (o ∷ os) = is_tag t o || carried t os

-- a tag that none of the earlier ones is; 15 where one is
abbrev pub new_tag : List (Option ℕ) → Reader ℕ
new_tag earlier = unless (λ t. carried t earlier) 15 (code 1 255)

abbrev pub element_fields : List (Option ℕ) → Reader Element
element_fields earlier = do
  m ← flags 3
  category ← code 1 255
  tag ← when (bit 0 m) None (some (new_tag earlier))
  attributes ← when (bit 1 m) [] attribute_list
  give (record { category = category; tag = tag; attributes = attributes })

abbrev pub tag_of : Element → Option ℕ
tag_of e = e.tag

abbrev pub one_element : ℕ → List Element → Reader Element
one_element i before = within kind.Element i (element_fields (list.map tag_of before))

abbrev pub element_list : Reader (List Element)
element_list = code 1 16 >>= many one_element

abbrev pub one_tag : ℕ → List ℕ → Reader ℕ
one_tag i before = code 1 255

abbrev pub reference_fields : Reader (List ℕ)
reference_fields = code 1 16 >>= many one_tag

abbrev pub one_reference : ℕ → List (List ℕ) → Reader (List ℕ)
one_reference i before = within kind.Reference i reference_fields

abbrev pub reference_list : Reader (List (List ℕ))
reference_list = code 1 16 >>= many one_reference

abbrev pub request_fields : Reader Request
request_fields = do
  m ← flags 3
  combining ← when (bit 0 m) 1 (code 1 1)
  elements ← element_list
  references ← when (bit 1 m) None (some reference_list)
  give (record { combined = bit 0 m; elements = elements; references = references })

abbrev pub read_request : List ℕ → Result Request Refusal
read_request = file request_fields
