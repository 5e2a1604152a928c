-- The references of a request, by their numbers. Assumes nothing.
use Rattle.std.proofs.Common.{◌≡◌, ℕ, zero, suc, ◌<◌, ◌≤◌, max, Bool, true, false, cond, List, [], ◌∷◌, length, get_or, drop, Some, None, refl, ap, arith, length-take}
use mathlib.Core.List as list
use Rattle.std.proofs.lemmas.List.{get_or-map}
use Rattle.model.specs.Lists.{nth}
use Rattle.wire.specs.declared.span.Span.{Span}
use Rattle.wire.specs.Span.{part}
use Rattle.request.specs.Held.{references_of}
use Rattle.request.specs.Tables.{longest}

abbrev longest_of : List (List ℕ) → ℕ
longest_of [] = 0
longest_of (x ∷ xs) = max (length x) (longest_of xs)

longest_at : (xs : List (List ℕ)) (k : ℕ) → length (get_or xs k []) ≤ longest_of xs
longest_at [] k = omega arith
longest_at (x ∷ xs) zero = omega arith
longest_at (x ∷ xs) (suc k) = let a = longest_at xs k in omega arith

module _ (tags : List ℕ) where
  parts_short : (ss : List Span) → longest_of (references_of tags ss) ≤ longest ss
  parts_short [] = omega arith
  parts_short (s ∷ ss) =
      let a = parts_short ss in
      let b = length-take s.count (drop s.first tags) in
      omega arith

  some_held : (b : Bool) (held : List Span) (xs : List (List ℕ)) → Some xs ≡ cond b (Some (references_of tags held)) None → xs ≡ references_of tags held
  some_held true held xs e = cc
  some_held false held xs e = let z : ◌≡◌ {A = ℕ} 0 1 = cc in absurd (omega arith)

  -- the tags of a reference are few
  pub tags_few : (b : Bool) (held ss : List Span) → longest held ≤ 16 → Some (references_of tags ss) ≡ cond b (Some (references_of tags held)) None
      → (k : ℕ) (d : Span) → k < length ss → length (part tags (get_or ss k d)) ≤ 16
  tags_few b held ss h e k d l =
      let same = some_held b held (references_of tags ss) e in
      let a = longest_at (references_of tags ss) k in
      let c = ap length (get_or-map (part tags) ss k d [] l) in
      let f = ap longest_of same in
      let g = parts_short held in
      omega arith

module _ {A B C : Type 0} (f : B → C) (g : A → B) where
  pub nth_maps : (xs : List A) (k : ℕ) (d : A) → k < length xs → nth (list.map f (list.map g xs)) k ≡ Some (f (g (get_or xs k d)))
  nth_maps [] k d h = absurd (omega arith)
  nth_maps (x ∷ xs) zero d h = refl
  nth_maps (x ∷ xs) (suc k) d h = nth_maps xs k d (omega arith)

  pub nth_maps_past : (xs : List A) (k : ℕ) → length xs ≤ k → nth (list.map f (list.map g xs)) k ≡ None
  nth_maps_past [] k h = refl
  nth_maps_past (x ∷ xs) zero h = absurd (omega arith)
  nth_maps_past (x ∷ xs) (suc k) h = nth_maps_past xs k (omega arith)

pub nth_one : {A : Type 0} (x : A) (k : ℕ) → k ≤ 0 → nth (x ∷ []) k ≡ Some x
nth_one x zero h = refl
nth_one x (suc k) h = absurd (omega arith)
