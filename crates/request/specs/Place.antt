-- What the place of a request holds, and what is shown of it. Assumes nothing.
use Rattle.std.specs.Prelude.{ℕ, zero, suc, List, [], ◌∷◌, Ok, Err, vec_items, Result}
use Rattle.std.specs.Borrow.{Bor}
use Rattle.model.specs.Content.{Attribute, Element, Request}
use Rattle.wire.specs.declared.span.Span.{Span}
use Rattle.wire.specs.Span.{part}
use Rattle.request.specs.declared.content.Element.{Element as HeldElement}
use Rattle.request.specs.declared.request.Request.{Request as Place}
use Rattle.request.specs.Held.{elements_of_held, references_of, index_of}

-- the bytes that the held request's texts are parts of
abbrev pub bytes_of : Place → List ℕ
bytes_of p = p.bytes.now

abbrev pub content_of : Place → Request
content_of p = index_of (bytes_of p) p.index

-- those that were opened, or those before them where they were refused
abbrev pub bytes_held : {F : Type 0} → Result (Unit {0}) F → List ℕ → Place → List ℕ
bytes_held (Ok u) opened before = opened
bytes_held (Err e) opened before = bytes_of before

-- elements as the place holds them
abbrev pub elements_shown : Place → List HeldElement → List Element
elements_shown p es = elements_of_held (bytes_of p) (vec_items p.index.attributes) es

-- none past the last element
abbrev pub attributes_of : ℕ → List Element → List Attribute
attributes_of n [] = []
attributes_of zero (e ∷ es) = e.attributes
attributes_of (suc n) (e ∷ es) = attributes_of n es

abbrev pub tags_shown : Place → Span → List ℕ
tags_shown p s = part (vec_items p.index.tags) s

abbrev pub references_shown : Place → Bor (List Span) → List (List ℕ)
references_shown p ss = references_of (vec_items p.index.tags) ss.now
