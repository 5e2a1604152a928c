-- What a single request means. Assumes nothing.
use Rattle.std.specs.Prelude.{ℕ, Bool, false, List, [], map, take, Some, None, Option, ◌==◌}
use Rattle.std.specs.Borrow.{Bor}
use Rattle.std.specs.Option.{option_map}
use Rattle.model.specs.Content.{Attribute, Element}
use Rattle.model.specs.Lists.{nth}
use Rattle.model.specs.Rows.{bare, for_node}
use Rattle.request.specs.Place.{content_of}
use Rattle.single.specs.declared.seen.Seen.{Seen}
use Rattle.single.specs.declared.single.SingleRequest.{SingleRequest}
use Rattle.single.specs.Numbers.{picked}
use Rattle.single.specs.Shown.{attribute_seen}

abbrev pub text_in : Bor (List ℕ) → List ℕ
text_in t = t.now

abbrev pub name_of : SingleRequest → Option (List ℕ)
name_of s = option_map text_in s.name

-- the elements for a node of that name, or for none
abbrev pub put : Option (List ℕ) → Element → Element
put None e = bare e
put (Some t) e = for_node t e

abbrev pub numbers_of : SingleRequest → List ℕ
numbers_of s = take s.count s.chosen

-- the chosen elements as the request has them
abbrev pub chosen_of : SingleRequest → List Element
chosen_of s = picked (content_of s.request.now).elements (numbers_of s)

abbrev pub content : SingleRequest → List Element
content s = map (put (name_of s)) (chosen_of s)

abbrev pub bytes_of : SingleRequest → List ℕ
bytes_of s = s.request.now.bytes.now

abbrev pub name_or_none : Option (List ℕ) → List ℕ
name_or_none None = []
name_or_none (Some t) = t

-- WHAT THE METHODS SAY OF THE CONTENT

abbrev pub category_of : Element → ℕ
category_of e = e.category

abbrev pub category_at : List Element → ℕ → Option ℕ
category_at es i = option_map category_of (nth es i)

abbrev pub attributes_in : Option Element → List Attribute
attributes_in None = []
attributes_in (Some e) = e.attributes

-- none past the last element
abbrev pub attributes_at : List Element → ℕ → List Attribute
attributes_at es i = attributes_in (nth es i)

abbrev pub seen_in : SingleRequest → Seen → Attribute
seen_in s a = attribute_seen (bytes_of s) (name_or_none (name_of s)) a

-- whether the attributes of a category are shown as those of a node's resource
abbrev pub is_resource_category : Option (List ℕ) → Option ℕ → Bool
is_resource_category None c = false
is_resource_category (Some t) None = false
is_resource_category (Some t) (Some c) = c == 1

abbrev pub is_code : ℕ → Option ℕ → Bool
is_code k None = false
is_code k (Some c) = c == k

-- false past the last element
abbrev pub has_category_at : List Element → ℕ → ℕ → Bool
has_category_at es i k = is_code k (category_at es i)
