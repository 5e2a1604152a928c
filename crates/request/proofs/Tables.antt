-- Tables that grow. Assumes nothing.
use Rattle.std.proofs.Common.{◌≡◌, ℕ, ◌+◌, ◌≤◌, List, [], ◌∷◌, ◌++◌, length, take, drop, vec_items, vec_len, vec_capacity, Vec, sym, refl, ap, ◌∙◌, subst, ap₂, arith, length-drop}
use mathlib.Core.List as list
use Rattle.std.proofs.lemmas.List.{take_all, drop_all, take-append-le, drop-append-le, take-append-drop, map_push, nil_from_length}
use Rattle.std.specs.declared.alloc.Global.{Global}
use Rattle.model.specs.Content as content
use Rattle.model.specs.Content.{tag_of}
use Rattle.wire.specs.declared.span.Span.{Span}
use Rattle.wire.specs.Span.{part}
use Rattle.request.specs.declared.content.Attribute.{Attribute}
use Rattle.request.specs.declared.content.Element.{Element}
use Rattle.request.specs.Held.{attributes_of_held, element_of_held, elements_of_held, element_at, elements_in, tags_held, tags_at, references_in}
use Rattle.request.specs.Tables.{added, Grows, span_end, reach, longest, element_span, whole_span}

module _ {X : Type 0} where
  pub added_none : (v : Vec X Global) → added v v ≡ []
  added_none v = let h : length v.items ≤ v.len = omega (arith, v.ok.0) in drop_all v.len v.items h

  pub grows_none : (n : ℕ) (v : Vec X Global) → Grows n v v
  grows_none n v =
      let h : length v.items ≤ v.len = omega (arith, v.ok.0) in
      record { kept = take_all v.len v.items h; low = omega arith; high = omega arith; room = refl }

  pub part_added : (b v : Vec X Global) (n : ℕ) → v.len ≡ b.len + n → part v.items (record { first = b.len; count = n }) ≡ added b v
  part_added b v n e =
      let h : length (drop b.len v.items) ≤ n = simp length-drop (omega (arith, v.ok.0)) in
      take_all n (drop b.len v.items) h

  pub grows_more : (m n : ℕ) (b v : Vec X Global) → m ≤ n → Grows m b v → Grows n b v
  grows_more m n b v h g = record { kept = g.kept; low = g.low; high = omega (arith, g.high); room = g.room }

  module _ (n : ℕ) (b v w : Vec X Global) (x : X) (g : Grows n b v) (e : vec_items w ≡ vec_items v ++ x ∷ []) (l : vec_len w ≡ vec_len v + 1) (r : vec_capacity w ≡ vec_capacity v) where
    pub grows_push : Grows (n + 1) b w
    grows_push =
        let h : b.len ≤ length v.items = omega (arith, v.ok.0, g.low) in
        record { kept = ap (take b.len) e ∙ take-append-le b.len v.items (x ∷ []) h ∙ g.kept; low = omega (arith, g.low); high = omega (arith, g.high); room = r ∙ g.room }

    pub added_push : added b w ≡ added b v ++ x ∷ []
    added_push =
        let h : b.len ≤ length v.items = omega (arith, v.ok.0, g.low) in
        ap (drop b.len) e ∙ drop-append-le b.len v.items (x ∷ []) h

  -- a span inside what a table held reads the same of what it holds
  pub part_kept : (old new : List X) (s : Span) → take (length old) new ≡ old → span_end s ≤ length old → part new s ≡ part old s
  part_kept old new s e h =
      let more = drop (length old) new in
      let split : new ≡ old ++ more = sym (take-append-drop (length old) new) ∙ ap (λ l. l ++ more) e in
      let f : s.first ≤ length old = omega arith in
      let n : s.count ≤ length (drop s.first old) = simp length-drop (omega arith) in
      ap (λ l. part l s) split ∙ ap (take s.count) (drop-append-le s.first old more f) ∙ take-append-le s.count (drop s.first old) more n

-- what is made of each span's part of a table stays as the table grows
module _ {A X Y : Type 0} (span : X → Span) (make : List A → X → Y) (by_part : (old new : List A) (x : X) → part new (span x) ≡ part old (span x) → make new x ≡ make old x) where
  pub all_kept : (old new : List A) → take (length old) new ≡ old → (xs : List X) → reach span xs ≤ length old → list.map (make new) xs ≡ list.map (make old) xs
  all_kept old new k [] h = refl
  all_kept old new k (x ∷ xs) h =
      let a : span_end (span x) ≤ length old = omega arith in
      let b : reach span xs ≤ length old = omega arith in
      ap₂ (λ y ys. y ∷ ys) (by_part old new x (part_kept old new (span x) k a)) (all_kept old new k xs b)

  pub held_push : (m : ℕ) (l w : Vec X Global) (t u : Vec A Global) (x : X) → Grows m t u → reach span (vec_items l) ≤ vec_len t → vec_items w ≡ vec_items l ++ x ∷ [] → list.map (make (vec_items u)) (vec_items w) ≡ list.map (make (vec_items t)) (vec_items l) ++ make (vec_items u) x ∷ []
  held_push m l w t u x g h i =
      let k : take (length t.items) u.items ≡ t.items = subst (λ n. take n u.items ≡ t.items) t.ok.0 g.kept in
      let n : reach span l.items ≤ length t.items = omega (arith, t.ok.0) in
      ap (list.map (make u.items)) i ∙ map_push (make u.items) l.items x ∙ ap (λ ys. ys ++ make u.items x ∷ []) (all_kept t.items u.items k l.items n)

module _ {X : Type 0} (span : X → Span) where
  reach_last : (n : ℕ) (xs : List X) (x : X) → reach span xs ≤ n → span_end (span x) ≤ n → reach span (xs ++ x ∷ []) ≤ n
  reach_last n [] x h k = omega arith
  reach_last n (y ∷ xs) x h k =
      let a : reach span xs ≤ n = omega arith in
      let b = reach_last n xs x a k in
      omega arith

  pub reach_push : (l w : Vec X Global) (m n : ℕ) (x : X) → reach span (vec_items l) ≤ m → m ≤ n → span_end (span x) ≤ n → vec_items w ≡ vec_items l ++ x ∷ [] → reach span (vec_items w) ≤ n
  reach_push l w m n x h o k e =
      let a : reach span l.items ≤ n = omega arith in
      subst (λ ys. reach span ys ≤ n) (sym e) (reach_last n l.items x a k)

  pub reach_none : (v : Vec X Global) (n : ℕ) → vec_len v ≡ 0 → reach span (vec_items v) ≤ n
  reach_none v n e =
      let z : length v.items ≡ 0 = omega (arith, v.ok.0) in
      subst (λ ys. reach span ys ≤ n) (sym (nil_from_length v.items z)) (omega arith)

pub tags_same : (bytes : List ℕ) (pool : List Attribute) (es : List Element) → list.map tag_of (elements_of_held bytes pool es) ≡ tags_held es
tags_same bytes pool [] = refl
tags_same bytes pool (e ∷ es) = ap (λ l. e.tag ∷ l) (tags_same bytes pool es)

element_by_part : (bytes : List ℕ) (old new : List Attribute) (e : Element) → part new (element_span e) ≡ part old (element_span e) → element_of_held bytes new e ≡ element_of_held bytes old e
element_by_part bytes old new e p = let f : List Attribute → content.Element = λ l. record { category = e.category; tag = e.tag; attributes = attributes_of_held bytes l } in ap f p

reference_by_part : (old new : List ℕ) (s : Span) → part new (whole_span s) ≡ part old (whole_span s) → part new s ≡ part old s
reference_by_part old new s p = p

pub elements_push : (bytes : List ℕ) (m : ℕ) (l w : Vec Element Global) (t u : Vec Attribute Global) (e : Element) → Grows m t u → reach element_span (vec_items l) ≤ vec_len t → vec_items w ≡ vec_items l ++ e ∷ [] → elements_in bytes w u ≡ elements_in bytes l t ++ element_at u bytes e ∷ []
elements_push bytes = held_push element_span (element_of_held bytes) (element_by_part bytes)

pub references_push : (m : ℕ) (l w : Vec Span Global) (t u : Vec ℕ Global) (s : Span) → Grows m t u → reach whole_span (vec_items l) ≤ vec_len t → vec_items w ≡ vec_items l ++ s ∷ [] → references_in w u ≡ references_in l t ++ tags_at u s ∷ []
references_push = held_push whole_span part reference_by_part

pub references_none : (l : Vec Span Global) (t : Vec ℕ Global) → vec_len l ≡ 0 → references_in l t ≡ []
references_none l t e =
    let z : length l.items ≡ 0 = omega (arith, l.ok.0) in
    ap (list.map (part t.items)) (nil_from_length l.items z)

longest_last : (ss : List Span) (s : Span) → longest ss ≤ 16 → s.count ≤ 16 → longest (ss ++ s ∷ []) ≤ 16
longest_last [] s h k = omega arith
longest_last (r ∷ ss) s h k =
    let a : longest ss ≤ 16 = omega arith in
    let b = longest_last ss s a k in
    omega arith

pub longest_push : (l w : Vec Span Global) (s : Span) → longest (vec_items l) ≤ 16 → s.count ≤ 16 → vec_items w ≡ vec_items l ++ s ∷ [] → longest (vec_items w) ≤ 16
longest_push l w s h k e = subst (λ ss. longest ss ≤ 16) (sym e) (longest_last l.items s h k)

pub longest_none : (l : Vec Span Global) → vec_len l ≡ 0 → longest (vec_items l) ≤ 16
longest_none l e =
    let z : length l.items ≡ 0 = omega (arith, l.ok.0) in
    subst (λ ss. longest ss ≤ 16) (sym (nil_from_length l.items z)) (omega arith)
