-- Tables that grow, and spans of them. Assumes nothing.
use Rattle.std.specs.Prelude.{◌≡◌, ℕ, ◌+◌, ◌≤◌, max, List, [], ◌∷◌, take, drop, vec_items, vec_len, vec_capacity, Vec}
use Rattle.std.specs.declared.alloc.Global.{Global}
use Rattle.wire.specs.declared.span.Span.{Span}
use Rattle.request.specs.declared.content.Element.{Element}

module _ {X : Type 0} where
  -- what a table holds past what it held before
  abbrev pub added : Vec X Global → Vec X Global → List X
  added before after = drop (vec_len before) (vec_items after)

  -- a table has grown by at most `most`, in place
  pub record Grows (most : ℕ) (before after : Vec X Global) : Type 0 where
    pub kept : take (vec_len before) (vec_items after) ≡ vec_items before
    pub low : vec_len before ≤ vec_len after
    pub high : vec_len after ≤ vec_len before + most
    pub room : vec_capacity after ≡ vec_capacity before

abbrev pub span_end : Span → ℕ
span_end s = s.first + s.count

-- how far the spans of a table reach into another
abbrev pub reach : {X : Type 0} → (X → Span) → List X → ℕ
reach span [] = 0
reach span (x ∷ xs) = max (span_end (span x)) (reach span xs)

-- how many items the longest span names
abbrev pub longest : List Span → ℕ
longest [] = 0
longest (s ∷ ss) = max s.count (longest ss)

abbrev pub element_span : Element → Span
element_span e = e.attributes

abbrev pub whole_span : Span → Span
whole_span s = s
