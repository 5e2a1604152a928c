-- What the tables of an index hold, over the request's bytes. Assumes nothing.
use Rattle.std.specs.Prelude.{ℕ, false, cond, List, [], Some, None, vec_items, Option, Vec}
use mathlib.Core.List as list
use Rattle.std.specs.Option.{option_map}
use Rattle.std.specs.declared.alloc.Global.{Global}
use Rattle.model.specs.Content.{Attribute, Element, Request}
use Rattle.wire.specs.declared.span.Span.{Span}
use Rattle.wire.specs.Span.{part}
use Rattle.wire.specs.Told.{spanned}
use Rattle.request.specs.declared.content.Attribute.{Attribute as HeldAttribute}
use Rattle.request.specs.declared.content.Element.{Element as HeldElement}
use Rattle.request.specs.declared.index.Index.{Index}

abbrev pub attribute_of : List ℕ → HeldAttribute → Attribute
attribute_of bytes a = record {
  included = a.included;
  id = a.id;
  type = a.data_type;
  issuer = option_map (spanned bytes) a.issuer;
  value = spanned bytes a.value;
}

abbrev pub attributes_of_held : List ℕ → List HeldAttribute → List Attribute
attributes_of_held bytes xs = list.map (attribute_of bytes) xs

abbrev pub element_of_held : List ℕ → List HeldAttribute → HeldElement → Element
element_of_held bytes pool e = record { category = e.category; tag = e.tag; attributes = attributes_of_held bytes (part pool e.attributes) }

abbrev pub elements_of_held : List ℕ → List HeldAttribute → List HeldElement → List Element
elements_of_held bytes pool es = list.map (element_of_held bytes pool) es

abbrev pub attributes_at : Vec HeldAttribute Global → List ℕ → Span → List Attribute
attributes_at table bytes s = attributes_of_held bytes (part (vec_items table) s)

abbrev pub element_at : Vec HeldAttribute Global → List ℕ → HeldElement → Element
element_at table bytes e = element_of_held bytes (vec_items table) e

abbrev pub tag_held : HeldElement → Option ℕ
tag_held e = e.tag

abbrev pub tags_held : List HeldElement → List (Option ℕ)
tags_held es = list.map tag_held es

abbrev pub elements_in : List ℕ → Vec HeldElement Global → Vec HeldAttribute Global → List Element
elements_in bytes elements table = elements_of_held bytes (vec_items table) (vec_items elements)

abbrev pub references_of : List ℕ → List Span → List (List ℕ)
references_of tags ss = list.map (part tags) ss

abbrev pub tags_at : Vec ℕ Global → Span → List ℕ
tags_at table s = part (vec_items table) s

abbrev pub references_in : Vec Span Global → Vec ℕ Global → List (List ℕ)
references_in references table = references_of (vec_items table) (vec_items references)

-- what an index over these bytes says
abbrev pub index_of : List ℕ → Index → Request
index_of bytes i = record {
  combined = i.combined;
  elements = elements_in bytes i.elements i.attributes;
  references = cond i.referenced (Some (references_in i.references i.tags)) None;
}

-- what is held where nothing was read; its list of references is empty, so that it has no rows
abbrev pub none_held : Request
none_held = record { combined = false; elements = []; references = Some [] }
