-- Categories as codes, one by one. Assumes nothing.
use Rattle.std.proofs.Common.{◌≡◌, ℕ, zero, suc, ◌+◌, ◌<◌, ◌≤◌, Bool, true, false, cond, ◌||◌, eqb, List, [], ◌∷◌, ◌++◌, map, length, get_or, drop, find, Some, None, Option, Bor, sym, refl, ap, ◌∙◌, ap₂, append_assoc, arith}
use mathlib.Core.List.{Memᴰ}
use Rattle.std.specs.List.{HoldsAt}
use Rattle.std.specs.Option.{option_map, MatchOption}
use Rattle.std.proofs.lemmas.List.{at_drop_more}
use Rattle.std.proofs.lemmas.Bool.{cond-true, cond-false, lt-ltb, and_from}
use Rattle.model.specs.Content.{Element}
use Rattle.model.specs.Lists.{any, keep, found}
use Rattle.model.specs.Rows.{Listed, category_of, of_category, categories, width, widths, occurrences}
use Rattle.model.proofs.Categories.{appears, width_of}
use Rattle.request.specs.declared.content.Attribute.{Attribute}
use Rattle.request.specs.declared.content.Element.{Element as HeldElement}
use Rattle.request.specs.Held.{elements_of_held}
use Rattle.expansion.specs.Listed.{listed_at, listed_of}
use Rattle.expansion.specs.Categories.{code_in, code_at, firsts, count_in}
use Rattle.expansion.specs.Choice.{positive}

-- THE CODE OF A NUMBER

pub code_here : (hs : List HeldElement) (k : ℕ) (d : HeldElement) → k < length hs → code_in hs k ≡ (get_or hs k d).category
code_here [] k d h = absurd (omega arith)
code_here (e ∷ hs) zero d h = refl
code_here (e ∷ hs) (suc k) d h = code_here hs k d (omega arith)

pub code_past : (hs : List HeldElement) (k : ℕ) → length hs ≤ k → code_in hs k ≡ 0
code_past [] k h = refl
code_past (e ∷ hs) zero h = absurd (omega arith)
code_past (e ∷ hs) (suc k) h = code_past hs k (omega arith)

-- as a look-up at k answers
pub code_got : (hs : List HeldElement) (j k : ℕ) (o : Option (Bor HeldElement)) (r : ℕ) → j ≡ k → MatchOption o (length hs ≤ j) (λ x. (j < length hs) × HoldsAt (λ y. x.now ≡ y) hs j)
    → MatchOption o (r ≡ 0) (λ x. r ≡ x.now.category) → r ≡ code_in hs k
code_got hs j k None r e a b = b ∙ sym (code_past hs k (omega arith))
code_got hs j k (Some x) r e a b =
    let h : k < length hs = omega (arith, a.0) in
    b ∙ ap (λ y. y.category) (a.1 x.now ∙ ap (λ i. get_or hs i x.now) e) ∙ sym (code_here hs k x.now h)

module _ (bytes : List ℕ) (pool : List Attribute) where
  code_same : (hs : List HeldElement) (k : ℕ) → code_in hs k ≡ code_at (elements_of_held bytes pool hs) k
  code_same [] k = refl
  code_same (e ∷ hs) zero = refl
  code_same (e ∷ hs) (suc k) = code_same hs k

  module _ (hs : List HeldElement) (es : List Element) (shown : elements_of_held bytes pool hs ≡ es) where
    pub code_is : (k : ℕ) → code_in hs k ≡ code_at es k
    code_is k = code_same hs k ∙ ap (λ l. code_at l k) shown

-- BY FIRST APPEARANCE

module _ (seen codes : List ℕ) (i : ℕ) where
  pub firsts_skip : i < length codes → any (eqb (get_or codes i 0)) seen ≡ true → seen ++ firsts seen (drop i codes) ≡ seen ++ firsts seen (drop (i + 1) codes)
  firsts_skip h e = ap (λ l. seen ++ l) (at_drop_more (firsts seen) codes i 0 h ∙ cond-true _ _ _ e)

  pub firsts_add : (new : List ℕ) → i < length codes → any (eqb (get_or codes i 0)) seen ≡ false → new ≡ seen ++ get_or codes i 0 ∷ []
      → seen ++ firsts seen (drop i codes) ≡ new ++ firsts new (drop (i + 1) codes)
  firsts_add new h e p =
      let c = get_or codes i 0 in
      let more = seen ++ c ∷ [] in
      ap (λ l. seen ++ l) (at_drop_more (firsts seen) codes i 0 h ∙ cond-false _ _ _ e)
      ∙ sym (append_assoc seen (c ∷ []) (firsts more (drop (i + 1) codes)))
      ∙ ap (λ l. l ++ firsts l (drop (i + 1) codes)) (sym p)

-- THE SAME OVER LISTED ELEMENTS

pub codes_of : (es : List Element) (ks : List ℕ) → map category_of (listed_of es ks) ≡ map (code_at es) ks
codes_of es [] = refl
codes_of es (k ∷ ks) = ap {B = List ℕ} (λ l. code_at es k ∷ l) (codes_of es ks)

any_push : (c x : ℕ) (xs : List ℕ) → any (eqb c) (xs ++ x ∷ []) ≡ eqb c x || any (eqb c) xs
any_push c x [] = refl
any_push c x (y ∷ ys) = ap (λ b. eqb c y || b) (any_push c x ys) ∙ swap (eqb c y) (eqb c x) (any (eqb c) ys)
  where
    swap : (a b d : Bool) → a || (b || d) ≡ b || (a || d)
    swap true true d = refl
    swap true false d = refl
    swap false true d = refl
    swap false false d = refl

-- which were seen matters, not in what order
firsts_are : (seen before : List ℕ) (ls : List Listed) → ((c : ℕ) → any (eqb c) seen ≡ any (eqb c) before) → firsts seen (map category_of ls) ≡ categories before ls
firsts_are seen before [] f = refl
firsts_are seen before (l ∷ ls) f =
    let c = category_of l in
    let more : (d : ℕ) → any (eqb d) (seen ++ c ∷ []) ≡ any (eqb d) (c ∷ before) = λ d. any_push d c seen ∙ ap (λ b. eqb d c || b) (f d) in
    step (any (eqb c) seen) (any (eqb c) before) (f c) (firsts_are seen before ls f) (firsts_are (seen ++ c ∷ []) (c ∷ before) ls more)
  where
    step : (a b : Bool) → a ≡ b → {xs ys us vs : List ℕ} → xs ≡ ys → us ≡ vs → cond a xs (category_of l ∷ us) ≡ cond b ys (category_of l ∷ vs)
    step a b e {xs} {ys} {us} {vs} p q = ap₂ (λ x y. cond a x (category_of l ∷ y)) p q ∙ ap (λ d. cond d ys (category_of l ∷ vs)) e

module _ (es : List Element) (ks codes : List ℕ) (beside : codes ≡ map (code_at es) ks) where
  codes_listed : codes ≡ map category_of (listed_of es ks)
  codes_listed = beside ∙ sym (codes_of es ks)

  pub categories_are : firsts [] codes ≡ categories [] (listed_of es ks)
  categories_are = ap (firsts []) codes_listed ∙ firsts_are [] [] (listed_of es ks) (λ c. refl)

  width_is : (ls : List Listed) (c : ℕ) → occurrences c (map category_of ls) ≡ width ls c
  width_is [] c = refl
  width_is (l ∷ ls) c = step (eqb (category_of l) c) (width_is ls c)
    where
      step : (b : Bool) → occurrences c (map category_of ls) ≡ width ls c
          → cond b (1 + occurrences c (map category_of ls)) (occurrences c (map category_of ls)) ≡ length (cond b (l ∷ keep (of_category c) ls) (keep (of_category c) ls))
      step true ih = omega (arith, ih)
      step false ih = ih

  counts_are : (cs : List ℕ) → map (count_in codes) cs ≡ map (width (listed_of es ks)) cs
  counts_are [] = refl
  counts_are (c ∷ cs) = ap₂ {C = List ℕ} (λ n l. n ∷ l) (ap (occurrences c) codes_listed ∙ width_is (listed_of es ks) c) (counts_are cs)

  pub widths_are : map (count_in codes) (firsts [] codes) ≡ widths (listed_of es ks)
  widths_are = counts_are (firsts [] codes) ∙ ap (map (width (listed_of es ks))) categories_are

-- EACH CATEGORY HAS AN ELEMENT

positive_map : (f : ℕ → ℕ) (cs : List ℕ) → ((c : ℕ) → Memᴰ c cs → 0 < f c) → positive (map f cs) ≡ true
positive_map f [] h = refl
positive_map f (c ∷ cs) h = and_from _ _ (lt-ltb 0 (f c) (h c (Memᴰ.head refl))) (positive_map f cs (λ d m. h d (Memᴰ.tail m)))

pub widths_positive : (ls : List Listed) → positive (widths ls) ≡ true
widths_positive ls = positive_map (width ls) (categories [] ls) (λ c m.
    let a = (appears [] ls c m).1 in
    let s = a.1.0 in
    omega (arith, width_of c s.1 s.2))

-- THE FIRST OF A CATEGORY

module _ (bytes : List ℕ) (pool : List Attribute) (hs : List HeldElement) (es : List Element) (shown : elements_of_held bytes pool hs ≡ es) where
  pub first_of : (c : ℕ) (ks : List ℕ) → found (of_category c) (listed_of es ks) ≡ option_map (listed_at es) (find (λ k. eqb (code_in hs k) c) ks)
  first_of c [] = refl
  first_of c (k ∷ ks) =
      ap (λ n. cond (eqb n c) (Some (listed_at es k)) (found (of_category c) (listed_of es ks))) (sym (code_is bytes pool hs es shown k))
      ∙ step (eqb (code_in hs k) c) (first_of c ks)
    where
      step : (b : Bool) → found (of_category c) (listed_of es ks) ≡ option_map (listed_at es) (find (λ j. eqb (code_in hs j) c) ks)
          → cond b (Some (listed_at es k)) (found (of_category c) (listed_of es ks)) ≡ option_map (listed_at es) (cond b (Some k) (find (λ j. eqb (code_in hs j) c) ks))
      step true e = refl
      step false e = e
