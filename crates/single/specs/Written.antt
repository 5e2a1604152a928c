-- What writing leaves in a buffer. Assumes nothing.
use Rattle.std.specs.Prelude.{◌≡◌, ℕ, ◌<◌, ◌≤◌, Bool, cond, not, List, [], ◌++◌, map, length, take, drop, Some, None, Ok, Err, Option, Result, ◌==◌}
use Rattle.std.specs.Option.{option_map}
use Rattle.model.specs.Content.{Attribute, Element, read_request}
use Rattle.model.specs.Rows.{request_of, single_bytes}
use Rattle.model.specs.Spelling.{RequestFits, WhenSome, spell_code, spell_element}
use Rattle.request.specs.Place.{content_of}
use Rattle.single.specs.declared.short.TooShort.{TooShort}
use Rattle.single.specs.declared.single.SingleRequest.{SingleRequest}
use Rattle.single.specs.Single.{name_of, content, category_at, attributes_at}

-- a length byte and a count byte tell at most 255; no request that was opened and no node's name comes near it
abbrev pub cut : {X : Type 0} → List X → List X
cut xs = take 255 xs

abbrev pub cut_attribute : Attribute → Attribute
cut_attribute a = record { included = a.included; id = a.id; type = a.type; issuer = option_map cut a.issuer; value = cut a.value }

abbrev pub cut_attributes : List Attribute → List Attribute
cut_attributes xs = map cut_attribute (cut xs)

abbrev pub cut_element : Element → Element
cut_element e = record { category = e.category; tag = None; attributes = cut_attributes e.attributes }

-- 1 is string
abbrev pub other_type : ℕ → Bool
other_type t = not (t == 1)

abbrev pub type_bytes : ℕ → List ℕ
type_bytes t = cond (other_type t) (spell_code t) []

-- how an element of that category and those attributes is written; nothing where there is none
abbrev pub spelled_at : Option ℕ → List Attribute → List ℕ
spelled_at None attributes = []
spelled_at (Some c) attributes = spell_element (record { category = c; tag = None; attributes = cut_attributes attributes })

abbrev pub spelled_element : List Element → ℕ → List ℕ
spelled_element es i = spelled_at (category_at es i) (attributes_at es i)

-- how a single request is written
abbrev pub bytes_for : List Element → List ℕ
bytes_for es = single_bytes (map cut_element es)

-- what a write answers and leaves: too short a buffer is as it was, and the length needed is told; else the bytes, and what stood after them
abbrev pub Writes : List ℕ → List ℕ → Result ℕ TooShort → List ℕ → Type 0
Writes bytes before (Ok n) after = (n ≡ length bytes) × (after ≡ bytes ++ drop (length bytes) before)
Writes bytes before (Err e) after = (length before < length bytes) × (e.needed ≡ length bytes) × (after ≡ before)

-- a view of some elements of a request that bytes can hold, for a node whose name a tree can hold
pub record Spellable (s : SingleRequest) : Type 0 where
  pub request : RequestFits (content_of s.request.now)
  pub name : WhenSome (λ t. length t ≤ 64) (name_of s)
  pub some : 1 ≤ length (content s)

-- its bytes are the specification's spelling, and they read back as that request
pub record Exact (s : SingleRequest) : Type 0 where
  pub spelled : bytes_for (content s) ≡ single_bytes (content s)
  pub read_back : read_request (single_bytes (content s)) ≡ Ok (request_of (content s))
