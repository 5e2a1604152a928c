-- What stands at a number of a list. Assumes nothing.
use Rattle.std.proofs.Common.{◌≡◌, ℕ, zero, suc, ◌+◌, ◌<◌, ◌≤◌, List, [], ◌∷◌, map, length, get_or, drop, Some, None, Option, sym, refl, ap, ◌∙◌, arith}
use Rattle.std.specs.List.{slice_get}
use Rattle.std.specs.Option.{option_map, option_copied}
use Rattle.std.specs.Borrow.{Bor}
use Rattle.std.specs.Slice.{IsItemAt}
use Rattle.std.proofs.lemmas.Option.{slice_get_past, slice_get-get_or, slice_get-map}
use Rattle.model.specs.Lists.{nth}

module _ {X : Type 0} where
  pub nth_is_get : (xs : List X) (i : ℕ) → slice_get xs i ≡ nth xs i
  nth_is_get [] i = refl
  nth_is_get (x ∷ xs) zero = refl
  nth_is_get (x ∷ xs) (suc i) = nth_is_get xs i

  pub nth_get_d : (xs : List X) (i : ℕ) (d : X) → i < length xs → nth xs i ≡ Some (get_or xs i d)
  nth_get_d xs i d h = sym (nth_is_get xs i) ∙ slice_get-get_or xs i d h

  pub nth_past : (xs : List X) (i : ℕ) → length xs ≤ i → nth xs i ≡ None
  nth_past xs i h = sym (nth_is_get xs i) ∙ slice_get_past xs i h

  -- what `get` of a slice gives
  pub nth_got : (xs : List X) (i : ℕ) (r : Option (Bor X)) → IsItemAt xs i r → option_copied r ≡ nth xs i
  nth_got xs i None h = sym (nth_past xs i h.3)
  nth_got xs i (Some x) h = ap Some h.1 ∙ sym (nth_get_d xs i x.now h.3.0)

  pub drop_nth : (xs : List X) (j : ℕ) (x : X) → Some x ≡ nth xs j → drop j xs ≡ x ∷ drop (j + 1) xs
  drop_nth [] j x e = let z : ◌≡◌ {A = ℕ} 0 1 = cc in absurd (omega arith)
  drop_nth (y ∷ ys) zero x e = let q : y ≡ x = cc in ap (λ z. z ∷ ys) q
  drop_nth (y ∷ ys) (suc j) x e = let q : suc (j + 1) ≡ suc j + 1 = omega arith in drop_nth ys j x e ∙ ap (λ n. x ∷ drop n (y ∷ ys)) q

  pub nth_none : (xs : List X) (j : ℕ) → None ≡ nth xs j → length xs ≤ j
  nth_none [] j e = omega arith
  nth_none (y ∷ ys) zero e = let z : ◌≡◌ {A = ℕ} 0 1 = cc in absurd (omega arith)
  nth_none (y ∷ ys) (suc j) e = let h = nth_none ys j e in omega arith

pub nth_map : {X Y : Type 0} (f : X → Y) (xs : List X) (i : ℕ) → nth (map f xs) i ≡ option_map f (nth xs i)
nth_map f xs i = sym (nth_is_get (map f xs) i) ∙ slice_get-map f xs i ∙ ap (option_map f) (nth_is_get xs i)
