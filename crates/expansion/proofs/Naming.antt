-- What tags list, tag by tag. Assumes nothing.
use Rattle.std.proofs.Common.{◌≡◌, ℕ, ◌+◌, ◌<◌, Bool, true, false, cond, List, [], ◌∷◌, ◌++◌, length, get_or, drop, Some, None, Option, position, sym, refl, ap, ◌∙◌, ap₂, append_assoc, arith}
use Rattle.std.specs.List.{position_from}
use Rattle.std.specs.Option.{option_map}
use Rattle.std.proofs.lemmas.Iterator.Adapters.{position_from-zero}
use Rattle.std.proofs.lemmas.List.{at_drop_more, get_or-drop, drop-drop, map_push, length-map}
use Rattle.model.specs.Content.{Element, is_tag}
use Rattle.model.specs.Lists.{found, upto}
use Rattle.model.specs.Rows.{Listed, Listing, lists, unknown, before, listed_next, carries, numbers_from, listing}
use Rattle.request.specs.declared.content.Attribute.{Attribute}
use Rattle.request.specs.declared.content.Element.{Element as HeldElement}
use Rattle.request.specs.Held.{element_of_held, elements_of_held}
use Rattle.single.specs.Numbers.{blank, numbered}
use Rattle.expansion.specs.Listed.{listed_at, listed_of, with_tag}

-- listed elements before what is listed after them
abbrev pub onto : List Listed → Listing → Listing
onto ls (lists ms) = lists (ls ++ ms)
onto ls (unknown p) = unknown p

onto_before : (ls : List Listed) (l : Listed) (rest : Listing) → onto ls (before l rest) ≡ onto (ls ++ l ∷ []) rest
onto_before ls l (lists ms) = ap lists (sym (append_assoc ls (l ∷ []) ms))
onto_before ls l (unknown p) = refl

-- the place of a list's part
module _ (whole : List Element) (n : ℕ) (e : Element) (es : List Element) (at : drop n whole ≡ e ∷ es) where
  here : numbered whole n ≡ e
  here =
      let z : n ≡ n + 0 = omega arith in
      ap (λ k. get_or whole k blank) z ∙ sym (get_or-drop n whole 0 blank) ∙ ap (λ l. get_or l 0 blank) at

  after : drop (n + 1) whole ≡ es
  after = sym (drop-drop 1 n whole) ∙ ap (drop 1) at

-- all elements by their numbers
numbers_are : (whole : List Element) (n : ℕ) (es : List Element) → drop n whole ≡ es → numbers_from n es ≡ listed_of whole (upto n (length es))
numbers_are whole n [] at = refl
numbers_are whole n (e ∷ es) at =
    ap₂ {C = List Listed} (λ x l. record { number = n; element = x } ∷ l) (sym (here whole n e es at)) (numbers_are whole (n + 1) es (after whole n e es at))

pub all_are : (es : List Element) → numbers_from 0 es ≡ listed_of es (upto 0 (length es))
all_are es = numbers_are es 0 es refl

module _ (bytes : List ℕ) (pool : List Attribute) (t : ℕ) where
  found_from : (whole : List Element) (n : ℕ) (hs : List HeldElement) → drop n whole ≡ elements_of_held bytes pool hs
      → found (carries t) (numbers_from n (elements_of_held bytes pool hs)) ≡ option_map (listed_at whole) (position_from (with_tag t) n hs)
  found_from whole n [] at = refl
  found_from whole n (h ∷ hs) at = step (is_tag t h.tag) (found_from whole (n + 1) hs (after whole n (element_of_held bytes pool h) (elements_of_held bytes pool hs) at))
    where
      step : (b : Bool) → found (carries t) (numbers_from (n + 1) (elements_of_held bytes pool hs)) ≡ option_map (listed_at whole) (position_from (with_tag t) (n + 1) hs)
          → cond b (Some (record { number = n; element = element_of_held bytes pool h })) (found (carries t) (numbers_from (n + 1) (elements_of_held bytes pool hs)))
          ≡ option_map (listed_at whole) (cond b (Some n) (position_from (with_tag t) (n + 1) hs))
      step true ih = ap {B = Option Listed} (λ x. Some (record { number = n; element = x })) (sym (here whole n (element_of_held bytes pool h) (elements_of_held bytes pool hs) at))
      step false ih = ih

pub position_below : (t : ℕ) (hs : List HeldElement) (k : ℕ) → Some k ≡ position (with_tag t) hs → k < length hs
position_below t hs k e = grind arith

-- over the elements that a request shows
module _ (bytes : List ℕ) (pool : List Attribute) (hs : List HeldElement) (es : List Element) (shown : elements_of_held bytes pool hs ≡ es) where
  pub shown_length : length hs ≡ length es
  shown_length = sym (length-map hs (element_of_held bytes pool)) ∙ ap length shown

  found_is : (t : ℕ) (o : Option ℕ) → o ≡ position (with_tag t) hs → found (carries t) (numbers_from 0 es) ≡ option_map (listed_at es) o
  found_is t o e =
      ap (λ l. found (carries t) (numbers_from 0 l)) (sym shown) ∙ found_from bytes pool t es 0 hs (sym shown) ∙ ap (option_map (listed_at es)) (sym (e ∙ position_from-zero (with_tag t) hs))

  module _ (tags : List ℕ) (i : ℕ) (h : i < length tags) where
    listing_more : (o : Option ℕ) → o ≡ position (with_tag (get_or tags i 0)) hs
        → listing (numbers_from 0 es) i (drop i tags) ≡ listed_next i (option_map (listed_at es) o) (listing (numbers_from 0 es) (i + 1) (drop (i + 1) tags))
    listing_more o e =
        at_drop_more (listing (numbers_from 0 es) i) tags i 0 h
        ∙ ap (λ x. listed_next i x (listing (numbers_from 0 es) (i + 1) (drop (i + 1) tags))) (found_is (get_or tags i 0) o e)

    pub one_unknown : (ks : List ℕ) → None ≡ position (with_tag (get_or tags i 0)) hs → onto (listed_of es ks) (listing (numbers_from 0 es) i (drop i tags)) ≡ unknown i
    one_unknown ks e = ap (onto (listed_of es ks)) (listing_more None e)

    pub one_listed : (ks js : List ℕ) (k : ℕ) → Some k ≡ position (with_tag (get_or tags i 0)) hs → js ≡ ks ++ k ∷ []
        → onto (listed_of es ks) (listing (numbers_from 0 es) i (drop i tags)) ≡ onto (listed_of es js) (listing (numbers_from 0 es) (i + 1) (drop (i + 1) tags))
    one_listed ks js k e p =
        let rest = listing (numbers_from 0 es) (i + 1) (drop (i + 1) tags) in
        ap (onto (listed_of es ks)) (listing_more (Some k) e)
        ∙ onto_before (listed_of es ks) (listed_at es k) rest
        ∙ ap (λ l. onto l rest) (sym (map_push (listed_at es) ks k))
        ∙ ap (λ l. onto (listed_of es l) rest) (sym p)
