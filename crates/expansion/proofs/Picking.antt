-- The chosen elements by their numbers. Assumes nothing.
use Rattle.std.proofs.Common.{◌≡◌, ℕ, ◌+◌, ◌<◌, ◌≤◌, Bool, true, false, cond, eqb, List, [], ◌∷◌, ◌++◌, map, length, ◌⊎◌, inl, inr, get_or, take, drop, sym, refl, ap, ◌∙◌, ap₂, append_assoc, arith}
use Rattle.std.proofs.lemmas.List.{drop_more, take_more, length-drop}
use Rattle.std.proofs.lemmas.Bool.{cond-true, cond-false, eq-eqb, ne_eqb}
use Rattle.model.specs.Content.{Element}
use Rattle.model.specs.Rows.{Listed, categories, occurrences, taken, picked, chosen}
use Rattle.single.specs.Numbers.{past}
use Rattle.expansion.specs.Listed.{listed_at, listed_of}
use Rattle.expansion.specs.Categories.{code_at, firsts, picks}
use Rattle.expansion.proofs.Codes.{categories_are}

-- THE POSITION TAKEN

pub taken_none : (ks ps : List ℕ) (c : ℕ) → (ks ≡ []) ⊎ (ps ≡ []) → taken ks ps c ≡ 0
taken_none ks ps c (inl e) = ap (λ l. taken l ps c) e
taken_none [] ps c (inr e) = refl
taken_none (k ∷ ks) ps c (inr e) = ap (λ l. taken (k ∷ ks) l c) e

-- PICKED ONE BY ONE

-- the next number k and its code c, of those that are left from place i on; j is the place after it
module _ (cs ps codes : List ℕ) (i j k c : ℕ) (ks more left rest : List ℕ) (next : j ≡ i + 1) (hk : ks ≡ k ∷ more) (hc : left ≡ c ∷ rest) (at : left ≡ drop i codes) where
  within : i < length codes
  within = omega (arith, ap length (sym hc ∙ at), length-drop i codes)

  parts : ◌≡◌ {A = List ℕ} (c ∷ rest) (get_or codes i 0 ∷ drop (i + 1) codes)
  parts = sym hc ∙ at ∙ drop_more codes i 0 within

  pub rest_is : rest ≡ drop j codes
  rest_is = let p = parts in let e : rest ≡ drop (i + 1) codes = cc in e ∙ ap (λ n. drop n codes) (sym next)

  earlier_is : take j codes ≡ take i codes ++ c ∷ []
  earlier_is =
      let p = parts in
      let e : get_or codes i 0 ≡ c = cc in
      ap (λ n. take n codes) next ∙ take_more codes i 0 within ∙ ap (λ x. take i codes ++ x ∷ []) e

  one_more : picks cs ps (take i codes) ks left ≡ cond (eqb (occurrences c (take i codes)) (taken cs ps c)) (k ∷ picks cs ps (take j codes) more rest) (picks cs ps (take j codes) more rest)
  one_more =
      ap₂ (picks cs ps (take i codes)) hk hc
      ∙ ap (λ e. cond (eqb (occurrences c (take i codes)) (taken cs ps c)) (k ∷ picks cs ps e more rest) (picks cs ps e more rest)) (sym earlier_is)

  pub pick_not : (acc : List ℕ) → (occurrences c (take i codes) ≡ taken cs ps c → ⊥) → acc ++ picks cs ps (take j codes) more rest ≡ acc ++ picks cs ps (take i codes) ks left
  pick_not acc e = ap (λ l. acc ++ l) (sym (one_more ∙ cond-false _ _ _ (ne_eqb _ _ e)))

  pub pick_it : (acc new : List ℕ) → occurrences c (take i codes) ≡ taken cs ps c → new ≡ acc ++ k ∷ []
      → new ++ picks cs ps (take j codes) more rest ≡ acc ++ picks cs ps (take i codes) ks left
  pick_it acc new e p =
      ap (λ l. l ++ picks cs ps (take j codes) more rest) p
      ∙ append_assoc acc (k ∷ []) (picks cs ps (take j codes) more rest)
      ∙ ap (λ l. acc ++ l) (sym (one_more ∙ cond-true _ _ _ (eq-eqb _ _ e)))

pub pick_none : (cs ps earlier ks codes : List ℕ) → (ks ≡ []) ⊎ (codes ≡ []) → picks cs ps earlier ks codes ≡ []
pick_none cs ps earlier ks codes (inl e) = ap (λ l. picks cs ps earlier l codes) e
pick_none cs ps earlier [] codes (inr e) = refl
pick_none cs ps earlier (k ∷ ks) codes (inr e) = ap (picks cs ps earlier (k ∷ ks)) e

-- WHAT IS PICKED

pub picks_named : (cs ps earlier ks codes : List ℕ) → past (picks cs ps earlier ks codes) ≤ past ks
picks_named cs ps earlier [] codes = omega arith
picks_named cs ps earlier (k ∷ ks) [] = omega arith
picks_named cs ps earlier (k ∷ ks) (c ∷ codes) = step (eqb (occurrences c earlier) (taken cs ps c)) (picks_named cs ps (earlier ++ c ∷ []) ks codes)
  where
    step : (b : Bool) → past (picks cs ps (earlier ++ c ∷ []) ks codes) ≤ past ks
        → past (cond b (k ∷ picks cs ps (earlier ++ c ∷ []) ks codes) (picks cs ps (earlier ++ c ∷ []) ks codes)) ≤ past (k ∷ ks)
    step true h = omega arith
    step false h = omega arith

occurrences_push : (c x : ℕ) (xs : List ℕ) → occurrences c (xs ++ x ∷ []) ≡ occurrences c (x ∷ xs)
occurrences_push c x [] = refl
occurrences_push c x (y ∷ ys) = ap (λ n. cond (eqb y c) (1 + n) n) (occurrences_push c x ys) ∙ swap (eqb y c) (eqb x c) (occurrences c ys)
  where
    swap : (a b : Bool) (n : ℕ) → cond a (1 + cond b (1 + n) n) (cond b (1 + n) n) ≡ cond b (1 + cond a (1 + n) n) (cond a (1 + n) n)
    swap true true n = refl
    swap true false n = refl
    swap false true n = refl
    swap false false n = refl

abbrev onward : List Element → List ℕ → List ℕ → List ℕ → ℕ → List ℕ → List ℕ
onward es cs ps earlier k ks = picks cs ps (earlier ++ code_at es k ∷ []) ks (map (code_at es) ks)

-- how often each came earlier matters, not in what order
picks_are : (es : List Element) (cs ps earlier before ks : List ℕ) → ((c : ℕ) → occurrences c earlier ≡ occurrences c before)
    → listed_of es (picks cs ps earlier ks (map (code_at es) ks)) ≡ picked cs ps before (listed_of es ks)
picks_are es cs ps earlier before [] f = refl
picks_are es cs ps earlier before (k ∷ ks) f =
    let c = code_at es k in
    let more : (d : ℕ) → occurrences d (earlier ++ c ∷ []) ≡ occurrences d (c ∷ before) =
    λ d. occurrences_push d c earlier ∙ ap (λ n. cond (eqb c d) (1 + n) n) (f d) in
    ap (λ n. listed_of es (cond (eqb n (taken cs ps c)) (k ∷ onward es cs ps earlier k ks) (onward es cs ps earlier k ks))) (f c)
    ∙ step (eqb (occurrences c before) (taken cs ps c)) (picks_are es cs ps (earlier ++ c ∷ []) (c ∷ before) ks more)
  where
    step : (b : Bool) → listed_of es (onward es cs ps earlier k ks) ≡ picked cs ps (code_at es k ∷ before) (listed_of es ks)
        → listed_of es (cond b (k ∷ onward es cs ps earlier k ks) (onward es cs ps earlier k ks)) ≡ cond b (listed_at es k ∷ picked cs ps (code_at es k ∷ before) (listed_of es ks)) (picked cs ps (code_at es k ∷ before) (listed_of es ks))
    step true e = ap {B = List Listed} (λ l. listed_at es k ∷ l) e
    step false e = e

pub chosen_is : (es : List Element) (ps ks codes new : List ℕ) → codes ≡ map (code_at es) ks → new ≡ picks (firsts [] codes) ps [] ks codes
    → listed_of es new ≡ chosen (listed_of es ks) ps
chosen_is es ps ks codes new beside e =
    ap (listed_of es) (e ∙ ap₂ (λ cs l. picks cs ps [] ks l) (categories_are es ks codes beside) beside)
    ∙ picks_are es (categories [] (listed_of es ks)) ps [] [] ks (λ c. refl)

pub chosen_named : (ps ks codes new : List ℕ) → new ≡ picks (firsts [] codes) ps [] ks codes → past new ≤ past ks
chosen_named ps ks codes new e = let a = picks_named (firsts [] codes) ps [] ks codes in let b = ap past e in omega arith
