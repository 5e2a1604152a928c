-- The position that a choice takes of a category, and the chosen elements with their positions. Assumes nothing.
use Rattle.std.proofs.Common.{◌≡◌, ℕ, suc, ◌+◌, ◌<◌, Bool, true, false, cond, eqb, List, [], ◌∷◌, map, sym, refl, ap, ◌∙◌, subst, ⊎_elim, arith}
use mathlib.Core.List.Memᴰ
use mathlib.Core.List.{Memᴰ}
use Rattle.std.proofs.lemmas.Bool.{eq-eqb, ne_eqb, cond-true, cond-false}
use Rattle.model.specs.Order.{Sorted}
use Rattle.model.specs.Lists.{keep, At}
use Rattle.model.specs.Rows.{Listed, category_of, categories, taken, occurrences, picked, chosen}
use Rattle.model.proofs.Positions.{at_mem}
use Rattle.model.proofs.Categories.{counted, counted_more}

-- THE POSITION TAKEN OF A CATEGORY

pub taken_is : {cs ps : List ℕ} (c i : ℕ) {k : ℕ} → Sorted (λ a b. a ≡ b → ⊥) cs → At k c cs → At k i ps → taken cs ps c ≡ i
taken_is c i s (At.first {xs = ks}) (At.first {xs = rs}) = cond-true (eqb c c) i (taken ks rs c) (eq-eqb c c refl)
taken_is c i s (At.later {y = d} {xs = ks} a) (At.later {y = p} {xs = rs} b) =
    cond-false (eqb d c) p (taken ks rs c) (ne_eqb d c (s.0 c (at_mem a))) ∙ taken_is c i s.1 a b

-- ELEMENTS WITH THEIR POSITIONS

abbrev pub positions : ℕ → List Listed → List (ℕ × Listed)
positions n [] = []
positions n (l ∷ ls) = (n, l) ∷ positions (n + 1) ls

pub in_positions : (n : ℕ) {i : ℕ} {l : Listed} {ls : List Listed} → At i l ls → Memᴰ {A = ℕ × Listed} (n + i, l) (positions n ls)
in_positions n (At.first {x = l}) = Memᴰ.head (ap (λ (k : ℕ). (k, l)) {x = n + 0} {y = n} (omega arith))
in_positions n (At.later {x = l} {xs = ls} {n = i} a) =
    Memᴰ.tail (subst (λ k. Memᴰ {A = ℕ × Listed} (k, l) (positions (n + 1) ls)) {x = n + 1 + i} {y = n + suc i} (omega arith)
    (in_positions (n + 1) a))

of_positions : (n : ℕ) (ls : List Listed) (x : ℕ × Listed) → Memᴰ x (positions n ls) → (i : ℕ) × (x.0 ≡ n + i) × At i x.1 ls
of_positions n [] x m = absurd (Memᴰ.not-nil m)
of_positions n (l ∷ ls) x m = ⊎_elim {C = (i : ℕ) × (x.0 ≡ n + i) × At i x.1 (l ∷ ls)}
    (λ e. let q : x.0 ≡ n = ap (λ (y : ℕ × Listed). y.0) e in
    (0, omega arith, subst (λ (k : Listed). At 0 k (l ∷ ls)) (sym (ap (λ (y : ℕ × Listed). y.1) e)) At.first))
    (λ t. let r = of_positions (n + 1) ls x t in (suc r.0, omega (arith, r.1), At.later r.2))
    (Memᴰ.cases_cons m)

pub position_of : (ls : List Listed) (x : ℕ × Listed) → Memᴰ x (positions 0 ls) → At x.0 x.1 ls
position_of ls x m = let r = of_positions 0 ls x m in subst (λ n. At n x.1 ls) {x = r.0} {y = x.0} (omega (arith, r.1)) r.2

abbrev pub Lower : ℕ × Listed → ℕ × Listed → Type 0
Lower x y = x.0 < y.0

pub sorted_positions : (n : ℕ) (ls : List Listed) → Sorted Lower (positions n ls)
sorted_positions n [] = tt
sorted_positions n (l ∷ ls) = (λ y m. let r = of_positions (n + 1) ls y m in omega (arith, r.1), sorted_positions (n + 1) ls)

-- whether the element at a position is chosen
abbrev pub chosen_at : List Listed → List ℕ → List ℕ → ℕ × Listed → Bool
chosen_at all cs ps x = eqb (counted (category_of x.1) x.0 all) (taken cs ps (category_of x.1))

-- what is picked, element by element, is what is chosen by position
picked_places : (all : List Listed) (cs ps earlier : List ℕ) (n : ℕ) (ls : List Listed) → ((c : ℕ) → occurrences c earlier ≡ counted c n all)
    → ((i : ℕ) (l : Listed) → At i l ls → At (n + i) l all)
    → picked cs ps earlier ls ≡ map (λ (x : ℕ × Listed). x.1) (keep (chosen_at all cs ps) (positions n ls))
picked_places all cs ps earlier n [] f g = refl
picked_places all cs ps earlier n (l ∷ ls) f g =
    let c = category_of l in
    let X = picked cs ps (c ∷ earlier) ls in
    let here : At n l all = subst (λ k. At k l all) {x = n + 0} {y = n} (omega arith) (g 0 l At.first) in
    let next : (d : ℕ) → occurrences d (c ∷ earlier) ≡ counted d (n + 1) all = λ d.
    ap (λ k. cond (eqb c d) (1 + k) k) (f d)
    ∙ (sym (counted_more d here) ∙ ap (λ k. counted d k all) {x = suc n} {y = n + 1} (omega arith)) in
    let on : (i : ℕ) (k : Listed) → At i k ls → At (n + 1 + i) k all = λ i k a.
    subst (λ j. At j k all) {x = n + suc i} {y = n + 1 + i} (omega arith) (g (suc i) k (At.later a)) in
    let rest = picked_places all cs ps (c ∷ earlier) (n + 1) ls next on in
    ap (λ o. cond (eqb o (taken cs ps c)) (l ∷ X) X) (f c) ∙ step (eqb (counted c n all) (taken cs ps c)) X rest
  where
    step : (b : Bool) (xs : List Listed) → xs ≡ map (λ (x : ℕ × Listed). x.1) (keep (chosen_at all cs ps) (positions (n + 1) ls))
        → cond b (l ∷ xs) xs ≡ map (λ (x : ℕ × Listed). x.1)
        (cond b ((n, l) ∷ keep (chosen_at all cs ps) (positions (n + 1) ls)) (keep (chosen_at all cs ps) (positions (n + 1) ls)))
    step true xs e = ap (λ (t : List Listed). l ∷ t) e
    step false xs e = e

-- the chosen elements with their positions
abbrev pub places : List Listed → List ℕ → List (ℕ × Listed)
places ls ps = keep (chosen_at ls (categories [] ls) ps) (positions 0 ls)

pub chosen_places : (ls : List Listed) (ps : List ℕ) → chosen ls ps ≡ map (λ (x : ℕ × Listed). x.1) (places ls ps)
chosen_places ls ps = picked_places ls (categories [] ls) ps [] 0 ls (λ c. refl) (λ i l a. subst (λ n. At n l ls) {x = i} {y = 0 + i} (omega arith) a)
