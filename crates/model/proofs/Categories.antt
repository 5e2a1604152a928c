-- The categories of listed elements, by first appearance, and how many elements of one stand before a position. Assumes nothing.
use Rattle.std.proofs.Common.{◌≡◌, ℕ, zero, suc, ◌+◌, ◌<◌, Bool, true, false, cond, eqb, List, [], ◌∷◌, length, sym, refl, ap, ◌∙◌, subst, ⊎_elim, arith}
use mathlib.Core.List.Memᴰ
use mathlib.Core.List.{Memᴰ}
use Rattle.std.proofs.lemmas.Bool.{or_parts, or_from, both_ways, eqb-true, eqb-false, eq-eqb, ne_eqb, cases_Bool, cases_lt, cond-true, cond-false}
use Rattle.model.specs.Order.{Sorted}
use Rattle.model.specs.Lists.{any, keep, At}
use Rattle.model.specs.Rows.{Listed, category_of, of_category, categories, width}
use Rattle.model.proofs.Positions.{at_nil, at_cases, sorted_weaker}

-- HOW MANY OF A CATEGORY STAND BEFORE A POSITION

-- position p has category c
abbrev pub StandsAt : List Listed → ℕ → ℕ → Type 0
StandsAt ls c p = (l : Listed) × At p l ls × (category_of l ≡ c)

-- category c first appears at position p
abbrev pub FirstAt : List Listed → ℕ → ℕ → Type 0
FirstAt ls c p = StandsAt ls c p × ((i : ℕ) → i < p → StandsAt ls c i → ⊥)

-- of the positions below p, how many have category c
abbrev pub counted : ℕ → ℕ → List Listed → ℕ
counted c zero ls = 0
counted c (suc p) [] = 0
counted c (suc p) (l ∷ ls) = cond (eqb (category_of l) c) (1 + counted c p ls) (counted c p ls)

swapped : (a b : Bool) (n : ℕ) → cond a (1 + cond b (1 + n) n) (cond b (1 + n) n) ≡ cond b (1 + cond a (1 + n) n) (cond a (1 + n) n)
swapped true true n = refl
swapped true false n = refl
swapped false true n = refl
swapped false false n = refl

-- one position further
pub counted_more : (c : ℕ) {p : ℕ} {l : Listed} {ls : List Listed} → At p l ls
    → counted c (suc p) ls ≡ cond (eqb (category_of l) c) (1 + counted c p ls) (counted c p ls)
counted_more c At.first = refl
counted_more c (At.later {x = l} {y = k} {xs} {n = p} a) =
    ap (λ n. cond (eqb (category_of k) c) (1 + n) n) (counted_more c a) ∙ swapped (eqb (category_of k) c) (eqb (category_of l) c) (counted c p xs)

pub counted_in : (c : ℕ) {p : ℕ} {l : Listed} {ls : List Listed} → At p l ls → category_of l ≡ c → counted c (suc p) ls ≡ 1 + counted c p ls
counted_in c {p} {l} {ls} a e =
    counted_more c a ∙ cond-true (eqb (category_of l) c) (1 + counted c p ls) (counted c p ls) (eq-eqb (category_of l) c e)

pub counted_out : (c : ℕ) {p : ℕ} {l : Listed} {ls : List Listed} → At p l ls → (category_of l ≡ c → ⊥) → counted c (suc p) ls ≡ counted c p ls
counted_out c {p} {l} {ls} a e =
    counted_more c a ∙ cond-false (eqb (category_of l) c) (1 + counted c p ls) (counted c p ls) (ne_eqb (category_of l) c e)

-- an element of category c stands at a place below the category's width
pub width_of : (c : ℕ) {p : ℕ} {l : Listed} {ls : List Listed} → At p l ls → category_of l ≡ c → counted c p ls < width ls c
width_of c (At.first {x = l}) e = rw (eq-eqb (category_of l) c e) (omega arith)
width_of c (At.later {y = k} {xs} {n = p} a) e = step (eqb (category_of k) c) (width_of c a e)
  where
    step : (b : Bool) → counted c p xs < width xs c
        → cond b (1 + counted c p xs) (counted c p xs) < length (cond b (k ∷ keep (of_category c) xs) (keep (of_category c) xs))
    step true h = omega arith
    step false h = h

-- the i-th element of category c stands at some position
abbrev pub Placed : ℕ → ℕ → List Listed → Type 0
Placed c i ls = (p : ℕ) × StandsAt ls c p × (counted c p ls ≡ i)

placed_on : (c : ℕ) (l : Listed) (ls : List Listed) (b : Bool) → eqb (category_of l) c ≡ b → (i : ℕ) → Placed c i ls
    → Placed c (cond b (1 + i) i) (l ∷ ls)
placed_on c l ls b e i h = (suc h.0, (h.1.0, At.later h.1.1, h.1.2), rw (e, h.2))

-- and each place below the width has its element
pub of_width : (c i : ℕ) (ls : List Listed) → i < width ls c → Placed c i ls
of_width c i [] h = absurd (omega arith)
of_width c i (l ∷ ls) h = step (eqb (category_of l) c) refl i h (λ j. of_width c j ls)
  where
    step : (b : Bool) → eqb (category_of l) c ≡ b → (i : ℕ) → i < length (cond b (l ∷ keep (of_category c) ls) (keep (of_category c) ls))
        → ((j : ℕ) → j < width ls c → Placed c j ls) → Placed c i (l ∷ ls)
    step true e zero k f = (0, (l, At.first, eqb-true (category_of l) c e), refl)
    step true e (suc i) k f = subst (λ n. Placed c n (l ∷ ls)) {x = 1 + i} {y = suc i} (omega arith) (placed_on c l ls true e i (f i (omega arith)))
    step false e i k f = placed_on c l ls false e i (f i k)

-- CATEGORIES BY FIRST APPEARANCE

pub first_same : (ls : List Listed) (c p r : ℕ) → FirstAt ls c p → FirstAt ls c r → p ≡ r
first_same ls c p r f g =
    ⊎_elim (λ l. absurd (g.1 p l f.0)) (λ l. ⊎_elim (λ k. absurd (f.1 r k g.0)) (λ k. omega arith) (cases_lt r p)) (cases_lt p r)

-- c appears first before d does
pub record Sooner (ls : List Listed) (c d : ℕ) : Type 0 where
  pub here : ℕ
  pub there : ℕ
  pub this_first : FirstAt ls c here
  pub that_first : FirstAt ls d there
  pub earlier : here < there

pub sooner_apart : (ls : List Listed) (c d : ℕ) → Sooner ls c d → Sooner ls d c → ⊥
sooner_apart ls c d s t =
    let a = first_same ls c s.here t.there s.this_first t.that_first in
    let b = first_same ls d s.there t.here s.that_first t.this_first in
    let l = s.earlier in
    let k = t.earlier in
    omega arith

first_later : (l : Listed) (ls : List Listed) (c p : ℕ) → (category_of l ≡ c → ⊥) → FirstAt ls c p → FirstAt (l ∷ ls) c (suc p)
first_later l ls c p n f = (
  (f.0.0, At.later f.0.1, f.0.2),
  λ i b h. ⊎_elim (λ e. n (ap category_of (sym e.1) ∙ h.2)) (λ e. f.1 e.0 (omega (arith, e.1)) (h.0, e.2, h.2)) (at_cases h.1),
)

first_here : (l : Listed) (ls : List Listed) → FirstAt (l ∷ ls) (category_of l) 0
first_here l ls = ((l, At.first, refl), λ i b h. omega arith)

sooner_later : (l : Listed) (ls : List Listed) (c d : ℕ) → (category_of l ≡ c → ⊥) → (category_of l ≡ d → ⊥) → Sooner ls c d → Sooner (l ∷ ls) c d
sooner_later l ls c d m n s =
    record {
      here = suc s.here;
      there = suc s.there;
      this_first = first_later l ls c s.here m s.this_first;
      that_first = first_later l ls d s.there n s.that_first;
      earlier = omega (arith, s.earlier);
    }

-- a category that was not seen is none that was
unseen_other : (seen : List ℕ) (c d : ℕ) → any (eqb d) seen ≡ true → any (eqb c) seen ≡ false → d ≡ c → ⊥
unseen_other seen c d t f e = both_ways (any (eqb c) seen) f (subst (λ x. any (eqb x) seen ≡ true) e t)

-- what is listed as a category appears, and was not seen before
pub appears : (seen : List ℕ) (ls : List Listed) (c : ℕ) → Memᴰ c (categories seen ls) → (any (eqb c) seen ≡ false) × ((p : ℕ) × FirstAt ls c p)
appears seen [] c m = absurd (Memᴰ.not-nil m)
appears seen (l ∷ ls) c m = step (any (eqb (category_of l)) seen) refl m (appears seen ls c) (appears (category_of l ∷ seen) ls c)
  where
    step : (b : Bool) → any (eqb (category_of l)) seen ≡ b
        → Memᴰ c (cond b (categories seen ls) (category_of l ∷ categories (category_of l ∷ seen) ls))
        → (Memᴰ c (categories seen ls) → (any (eqb c) seen ≡ false) × ((p : ℕ) × FirstAt ls c p))
        → (Memᴰ c (categories (category_of l ∷ seen) ls) → (any (eqb c) (category_of l ∷ seen) ≡ false) × ((p : ℕ) × FirstAt ls c p))
        → (any (eqb c) seen ≡ false) × ((p : ℕ) × FirstAt (l ∷ ls) c p)
    step true e m f g = let r = f m in (r.0, (suc r.1.0, first_later l ls c r.1.0 (unseen_other seen c (category_of l) e r.0) r.1.1))
    step false e m f g = ⊎_elim {C = (any (eqb c) seen ≡ false) × ((p : ℕ) × FirstAt (l ∷ ls) c p)}
        (λ q. (subst (λ x. any (eqb x) seen ≡ false) (sym q) e, (0, subst (λ x. FirstAt (l ∷ ls) x 0) (sym q) (first_here l ls))))
        (λ t. let r = g t in let s = or_parts (eqb c (category_of l)) (any (eqb c) seen) r.0 in
        (s.1, (suc r.1.0, first_later l ls c r.1.0 (λ q. eqb-false c (category_of l) s.0 (sym q)) r.1.1)))
        (Memᴰ.cases_cons m)

-- each category that appears and was not seen is listed
pub all_appear : (seen : List ℕ) (ls : List Listed) (c p : ℕ) → StandsAt ls c p → any (eqb c) seen ≡ false → Memᴰ c (categories seen ls)
all_appear seen [] c p h u = absurd (at_nil h.1)
all_appear seen (l ∷ ls) c p h u =
    step (any (eqb (category_of l)) seen) refl (λ k s. all_appear seen ls c k s u) (λ k s v. all_appear (category_of l ∷ seen) ls c k s v)
  where
    step : (b : Bool) → any (eqb (category_of l)) seen ≡ b → ((k : ℕ) → StandsAt ls c k → Memᴰ c (categories seen ls))
        → ((k : ℕ) → StandsAt ls c k → any (eqb c) (category_of l ∷ seen) ≡ false → Memᴰ c (categories (category_of l ∷ seen) ls))
        → Memᴰ c (cond b (categories seen ls) (category_of l ∷ categories (category_of l ∷ seen) ls))
    step true e f g =
        ⊎_elim (λ q. absurd (unseen_other seen c (category_of l) e u (ap category_of (sym q.1) ∙ h.2))) (λ q. f q.0 (h.0, q.2, h.2))
        (at_cases h.1)
    step false e f g = ⊎_elim (λ q. Memᴰ.head (sym h.2 ∙ ap category_of q.1))
        (λ q. ⊎_elim (λ t. Memᴰ.head (eqb-true c (category_of l) t))
        (λ t. Memᴰ.tail (g q.0 (h.0, q.2, h.2) (or_from (eqb c (category_of l)) (any (eqb c) seen) t u)))
        (cases_Bool (eqb c (category_of l))))
        (at_cases h.1)

-- by first appearance
pub sorted_categories : (seen : List ℕ) (ls : List Listed) → Sorted (Sooner ls) (categories seen ls)
sorted_categories seen [] = tt
sorted_categories seen (l ∷ ls) = step (any (eqb (category_of l)) seen) refl (sorted_categories seen ls) (sorted_categories (category_of l ∷ seen) ls)
  where
    other : (c : ℕ) → Memᴰ c (categories (category_of l ∷ seen) ls) → category_of l ≡ c → ⊥
    other c m q =
        eqb-false c (category_of l) (or_parts (eqb c (category_of l)) (any (eqb c) seen) (appears (category_of l ∷ seen) ls c m).0).0 (sym q)

    step : (b : Bool) → any (eqb (category_of l)) seen ≡ b → Sorted (Sooner ls) (categories seen ls)
        → Sorted (Sooner ls) (categories (category_of l ∷ seen) ls)
        → Sorted (Sooner (l ∷ ls)) (cond b (categories seen ls) (category_of l ∷ categories (category_of l ∷ seen) ls))
    step true e s t =
        sorted_weaker (Sooner ls) (Sooner (l ∷ ls)) (categories seen ls)
        (λ c d m n. sooner_later l ls c d (unseen_other seen c (category_of l) e (appears seen ls c m).0)
        (unseen_other seen d (category_of l) e (appears seen ls d n).0)) s
    step false e s t = (
      λ d m. let r = appears (category_of l ∷ seen) ls d m in record {
        here = 0;
        there = suc r.1.0;
        this_first = first_here l ls;
        that_first = first_later l ls d r.1.0 (other d m) r.1.1;
        earlier = omega arith;
      },
      sorted_weaker (Sooner ls) (Sooner (l ∷ ls)) (categories (category_of l ∷ seen) ls) (λ c d m n. sooner_later l ls c d (other c m) (other d n)) t,
    )

pub distinct_categories : (ls : List Listed) → Sorted (λ a b. a ≡ b → ⊥) (categories [] ls)
distinct_categories ls = sorted_weaker (Sooner ls) (λ a b. a ≡ b → ⊥) (categories [] ls)
    (λ c d m n s e. let twice = subst (Sooner ls c) (sym e) s in sooner_apart ls c c twice twice) (sorted_categories [] ls)
