-- The number of rows is the sum over references and choices, and at most 16 × 324 × 1,024. Assumes nothing.
-- The choices of a reference number the product of its categories' widths, which add up to at most 16; that no such product exceeds 324 is one finite test.
use Rattle.std.proofs.Common.{◌≡◌, ℕ, zero, suc, ◌+◌, ◌*◌, ◌<◌, ◌≤◌, Bool, true, false, cond, ◌&&◌, ◌||◌, eqb, ltb, leb, List, [], ◌∷◌, map, length, get_or, Some, None, Option, sym, refl, ap, ◌∙◌, ap₂, ⊎_elim, not-suc-le-zero, suc-mul, mul-le-mul_left, arith}
use mathlib.Core.List.{Memᴰ}
use lib.ListN.{length-map}
use Rattle.std.proofs.lemmas.Bool.{or_cases, and_parts, eqb-true, ne_eqb, cases_lt, leb-true, ltb-true}
use Rattle.model.specs.Order.{Sorted}
use Rattle.model.specs.Content.{Request}
use Rattle.model.specs.Spelling.{WhenSome, ReferencesFit, RequestFits}
use Rattle.model.specs.Lists.{upto, total_over}
use Rattle.model.specs.Tree.{Tree, count, Limits, nodes}
use Rattle.model.specs.Rows.{Listed, all_listed, Listing, listing, listings_by, listings, category_of, categories, width, widths, each_after, choices, chosen, Scope, scope, resource, lists, unknown, faulty, itself, below}
use Rattle.model.specs.Total.{is_reached, scope_total, resource_total, choice_total, reference_total, total, most_rows, RowsBounded}
use Rattle.model.proofs.Members.{keep_length, length_upto, all_in}
use Rattle.model.proofs.Categories.{distinct_categories}
use Rattle.model.proofs.Single.{request_fits}
use Rattle.model.proofs.Fits.{FitListing, listings_fit}
use Rattle.model.proofs.Totals.{length_joined, rows_length}

-- A TEST OVER ALL NUMBERS BELOW A BOUND

abbrev all_below : (ℕ → Bool) → ℕ → Bool
all_below p zero = true
all_below p (suc n) = all_below p n && p n

at_below_all : (p : ℕ → Bool) (n k : ℕ) → all_below p n ≡ true → k < n → p k ≡ true
at_below_all p zero k e l = absurd (not-suc-le-zero l)
at_below_all p (suc n) k e l =
    let h = and_parts (all_below p n) (p n) e in
    ⊎_elim (λ b. at_below_all p n k h.0 b) (λ b. let q : k ≡ n = omega arith in ap p q ∙ h.1) (cases_lt k n)

-- SUMS

module _ {A : Type 0} (f : A → ℕ) (m : ℕ) where
  -- a sum of numbers up to m
  sum_bound : (xs : List A) → ((x : A) → Memᴰ x xs → f x ≤ m) → total_over f xs ≤ length xs * m
  sum_bound [] h = omega arith
  sum_bound (x ∷ xs) h =
      let a = h x (Memᴰ.head refl) in
      let b = sum_bound xs (λ y n. h y (Memᴰ.tail n)) in
      omega (arith, suc-mul (length xs) m)

  -- a sum of the same number
  sum_same : (xs : List A) → ((x : A) → f x ≡ m) → total_over f xs ≡ length xs * m
  sum_same [] h = omega arith
  sum_same (x ∷ xs) h =
      let a = h x in
      let b = sum_same xs h in
      omega (arith, suc-mul (length xs) m)

-- THE NUMBER OF CHOICES

abbrev product : List ℕ → ℕ
product [] = 1
product (w ∷ ws) = w * product ws

length_choices : (ws : List ℕ) → length (choices ws) ≡ product ws
length_choices [] = refl
length_choices (w ∷ ws) =
    let n = length (choices ws) in
    length_joined (each_after (choices ws)) (λ _. n) (λ p. length-map (choices ws) (λ (c : List ℕ). p ∷ c)) (upto 0 w)
    ∙ (sum_same (λ _. n) n (upto 0 w) (λ p. refl) ∙ ap₂ (λ a b. a * b) (length_upto 0 w) (length_choices ws))

-- the greatest product of numbers whose sum is n, for n up to 16
abbrev best : ℕ → ℕ
best n = get_or (1 ∷ 1 ∷ 2 ∷ 3 ∷ 4 ∷ 6 ∷ 9 ∷ 12 ∷ 18 ∷ 27 ∷ 36 ∷ 54 ∷ 81 ∷ 108 ∷ 162 ∷ 243 ∷ 324 ∷ []) n 0

-- one number more makes no product greater than the best
abbrev no_better : ℕ → ℕ → Bool
no_better w n = leb (w + n) 16 && leb (w * best n) (best (w + n)) || ltb 16 (w + n)

never_better : all_below (λ w. all_below (no_better w) 17) 17 ≡ true
never_better = refl

best_more : (w n : ℕ) → w + n ≤ 16 → w * best n ≤ best (w + n)
best_more w n h = ⊎_elim
    (λ e. leb-true (w * best n) (best (w + n)) (and_parts (leb (w + n) 16) (leb (w * best n) (best (w + n))) e).1)
    (λ e. absurd (let l = ltb-true 16 (w + n) e in omega arith))
    (or_cases (leb (w + n) 16 && leb (w * best n) (best (w + n))) (ltb 16 (w + n))
    (at_below_all (no_better w) 17 n (at_below_all (λ v. all_below (no_better v) 17) 17 w never_better (omega arith)) (omega arith)))

best_most : (n : ℕ) → n ≤ 16 → best n ≤ 324
best_most n h = leb-true (best n) 324 (at_below_all (λ k. leb (best k) 324) 17 n refl (omega arith))

product_best : {A : Type 0} (f : A → ℕ) (xs : List A) → total_over f xs ≤ 16 → product (map f xs) ≤ best (total_over f xs)
product_best f [] h = omega arith
product_best f (x ∷ xs) h =
    let a = product_best f xs (omega arith) in
    let b = mul-le-mul_left (f x) a in
    let c = best_more (f x) (total_over f xs) h in
    omega arith

-- THE WIDTHS OF THE CATEGORIES

module _ (l : Listed) (ls : List Listed) where
  width_step : (d : ℕ) (b : Bool) → eqb (category_of l) d ≡ b → width (l ∷ ls) d ≡ cond b 1 0 + width ls d
  width_step d true e = rw e (omega arith)
  width_step d false e = rw e (omega arith)

  -- one element more adds nothing to the widths of other categories
  none_wider : (cs : List ℕ) → ((c : ℕ) → Memᴰ c cs → category_of l ≡ c → ⊥) → total_over (width (l ∷ ls)) cs ≡ total_over (width ls) cs
  none_wider [] f = refl
  none_wider (c ∷ cs) f =
      let a = width_step c false (ne_eqb (category_of l) c (f c (Memᴰ.head refl))) in
      let b = none_wider cs (λ d m. f d (Memᴰ.tail m)) in
      omega arith

  -- and at most one to those of distinct categories
  one_wider : (cs : List ℕ) → Sorted (λ a b. a ≡ b → ⊥) cs → total_over (width (l ∷ ls)) cs ≤ 1 + total_over (width ls) cs
  one_wider [] s = omega arith
  one_wider (c ∷ cs) s = on (eqb (category_of l) c) refl (one_wider cs s.1)
    where
      on : (b : Bool) → eqb (category_of l) c ≡ b → total_over (width (l ∷ ls)) cs ≤ 1 + total_over (width ls) cs
          → total_over (width (l ∷ ls)) (c ∷ cs) ≤ 1 + total_over (width ls) (c ∷ cs)
      on true e h =
          let a = width_step c true e in
          let b = none_wider cs (λ d m q. s.0 d m (sym (eqb-true (category_of l) c e) ∙ q)) in
          omega arith
      on false e h = let a = width_step c false e in omega arith

no_widths : (cs : List ℕ) → total_over (width []) cs ≡ 0
no_widths [] = refl
no_widths (c ∷ cs) = let a = no_widths cs in omega arith

widths_bound : (ls : List Listed) (cs : List ℕ) → Sorted (λ a b. a ≡ b → ⊥) cs → total_over (width ls) cs ≤ length ls
widths_bound [] cs s = omega (arith, no_widths cs)
widths_bound (l ∷ ls) cs s = omega (arith, one_wider l ls cs s, widths_bound ls cs s)

choices_bound : (ls : List Listed) → length ls ≤ 16 → length (choices (widths ls)) ≤ 324
choices_bound ls h =
    let n = total_over (width ls) (categories [] ls) in
    let few : n ≤ 16 = omega (arith, widths_bound ls (categories [] ls) (distinct_categories ls)) in
    omega (arith, length_choices (widths ls), product_best (width ls) (categories [] ls) few, best_most n few)

-- THE NUMBER OF ROWS

pub references_bound : (q : Request) → RequestFits q → length (listings q) ≤ 16
references_bound q f = on q.references f.references
  where
    on : (o : Option (List (List ℕ))) → WhenSome ReferencesFit o → length (listings_by (all_listed q) o) ≤ 16
    on None h = omega arith
    on (Some refs) h = omega (arith, h.as_many, length-map refs (listing (all_listed q) 0))

module _ (tree : Tree) (limits : Limits tree) where
  scope_bound : (s : Scope) → scope_total tree s ≤ 1024
  scope_bound (faulty c) = omega arith
  scope_bound itself = omega arith
  scope_bound (below x a) = omega (arith, limits.few, keep_length (is_reached tree x a) (nodes tree), length_upto 0 (count tree))

  resource_bound : (o : Option Listed) → resource_total tree o ≤ 1024
  resource_bound None = omega arith
  resource_bound (Some l) = scope_bound (scope tree l.element)

  reference_bound : (l : Listing) → FitListing l → reference_total tree l ≤ 324 * 1024
  reference_bound (unknown p) f = omega arith
  reference_bound (lists ls) f =
      let a = sum_bound (choice_total tree ls) 1024 (choices (widths ls)) (λ ps m. resource_bound (resource (chosen ls ps))) in
      let b = choices_bound ls f.2 in
      omega arith

  total_bound : (q : Request) → RequestFits q → total q tree ≤ most_rows
  total_bound q f =
      let each = λ (l : Listing) (m : Memᴰ l (listings q)). reference_bound l (all_in FitListing (listings q) (listings_fit q f) l m) in
      let a = sum_bound (reference_total tree) (324 * 1024) (listings q) each in
      let b = references_bound q f in
      omega arith

pub rows_bounded : RowsBounded
rows_bounded bytes q tree point e limits =
    let n = rows_length q tree point in
    let b = total_bound tree limits q (request_fits bytes q e) in
    (n, omega arith)
