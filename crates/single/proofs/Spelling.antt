-- How the parts of a single request are spelled. Assumes nothing.
use Rattle.std.proofs.Common.{◌≡◌, ℕ, zero, suc, ◌+◌, ◌^◌, ◌<◌, ◌≤◌, min, List, [], ◌∷◌, ◌++◌, map, length, get_or, take, Some, None, Option, sym, refl, ap, ◌∙◌, ap₂, arith}
use Rattle.std.specs.Option.{option_map}
use Rattle.std.specs.List.{flat_map}
use Rattle.std.proofs.lemmas.List.{append-nil, flat_map_more, map_push, take_more, take_all, length-map, length-take-le}
use Rattle.wire.proofs.Clipped.{take_clipped}
use Rattle.model.specs.Content.{Attribute, Element}
use Rattle.model.specs.Lists.{nth}
use Rattle.model.specs.Spelling.{is_there, spell_attribute, spell_element}
use Rattle.single.specs.Numbers.{blank}
use Rattle.single.specs.Single.{category_of, attributes_in}
use Rattle.single.specs.Written.{cut, cut_attribute, cut_attributes, cut_element, spelled_at, spelled_element, bytes_for}
use Rattle.single.proofs.Lengths.{elements_few}
use Rattle.single.proofs.Places.{nth_get_d}

pub there_mapped : {X Y : Type 0} (f : X → Y) (o : Option X) → is_there (option_map f o) ≡ is_there o
there_mapped f None = refl
there_mapped f (Some x) = refl

pub take_nth : {X : Type 0} (xs : List X) (j : ℕ) (x : X) → Some x ≡ nth xs j → take (j + 1) xs ≡ take j xs ++ x ∷ []
take_nth [] j x e = let z : ◌≡◌ {A = ℕ} 0 1 = cc in absurd (omega arith)
take_nth (y ∷ ys) zero x e = let q : y ≡ x = cc in ap (λ z. z ∷ []) q
take_nth (y ∷ ys) (suc j) x e = let q : suc j + 1 ≡ suc (j + 1) = omega arith in ap (λ n. take n (y ∷ ys)) q ∙ ap (λ l. y ∷ l) (take_nth ys j x e)

-- what is written of the first items, and one more
pub joined_push : {X Y : Type 0} (f : Y → List ℕ) (g : X → Y) (xs : List X) (x : X) → flat_map f (map g xs) ++ f (g x) ≡ flat_map f (map g (xs ++ x ∷ []))
joined_push f g xs x = flat_map_more f [] (map g xs) (g x) ∙ ap (flat_map f) (sym (map_push g xs x))

-- an element with attributes
pub spelled_some : (c : ℕ) (xs : List Attribute) → 0 < length xs → spelled_at (Some c) xs ≡ 2 ∷ c ∷ length (cut_attributes xs) ∷ flat_map spell_attribute (cut_attributes xs)
spelled_some c [] h = absurd (omega arith)
spelled_some c (x ∷ xs) h = refl

module _ (xs : List Attribute) (m : ℕ) (is : m ≡ min (length xs) 255) where
  clipped : take m xs ≡ cut xs
  clipped = let e : m ≡ min 255 (length xs) = omega arith in take_clipped xs 255 m e

  pub cut_count : m ≡ length (cut_attributes xs)
  cut_count = sym (length-take-le m xs (omega arith)) ∙ ap length clipped ∙ sym (length-map (cut xs) cut_attribute)

  pub cut_joined : (n : ℕ) → n ≡ m → flat_map spell_attribute (map cut_attribute (take n xs)) ≡ flat_map spell_attribute (cut_attributes xs)
  cut_joined n e = ap (λ k. flat_map spell_attribute (map cut_attribute (take k xs))) e ∙ ap (λ l. flat_map spell_attribute (map cut_attribute l)) clipped

-- element by element
module _ (es : List Element) (i : ℕ) (h : i < length es) where
  element_here : spelled_element es i ≡ spell_element (cut_element (get_or es i blank))
  element_here = ap (λ o. spelled_at (option_map category_of o) (attributes_in o)) (nth_get_d es i blank h)

  pub elements_push : flat_map spell_element (map cut_element (take i es)) ++ spelled_element es i ≡ flat_map spell_element (map cut_element (take (i + 1) es))
  elements_push =
      ap (λ l. flat_map spell_element (map cut_element (take i es)) ++ l) element_here
      ∙ joined_push spell_element cut_element (take i es) (get_or es i blank)
      ∙ ap (λ l. flat_map spell_element (map cut_element l)) (sym (take_more es i blank h))

pub whole_spelled : (es : List Element) (n i : ℕ) → n ≡ length es → length es ≤ i → 0 ∷ n ∷ flat_map spell_element (map cut_element (take i es)) ≡ bytes_for es
whole_spelled es n i e h =
    ap₂ (λ k l. 0 ∷ k ∷ flat_map spell_element (map cut_element l)) (e ∙ sym (length-map es cut_element)) (take_all i es h)
    ∙ ap (λ l. 0 ∷ length (map cut_element es) ∷ l) (sym (append-nil (flat_map spell_element (map cut_element es))))

pub bytes_few : (es : List Element) (n : ℕ) → n ≡ length es → n ≤ 16 → length (bytes_for es) < 2 ^ 64
bytes_few es n e h =
    let l = ap length (whole_spelled es n n e (omega arith)) in
    let k = ap (λ xs. length (flat_map spell_element (map cut_element xs))) (take_all n es (omega arith)) in
    let f = elements_few es in
    omega arith
