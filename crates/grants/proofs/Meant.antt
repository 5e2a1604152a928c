-- The computed answer is the one that the relations give, and only that. Assumes nothing.
use Rattle.std.proofs.Common.{◌≡◌, ℕ, zero, suc, ◌+◌, ◌<◌, Bool, true, false, cond, ◌&&◌, ◌||◌, List, [], ◌∷◌, length, get_or, sym, refl, ap, ◌∙◌, subst, ap₂, inl, inr, ⊎_elim, add-zero, zero-add, arith}
use Rattle.std.proofs.lemmas.List.{nil_from_length}
use Rattle.std.proofs.lemmas.Bool.{and_parts, and_from, or_cases, or_parts, or_from, cond-true, cond-false, eqb-true, ne_eqb, ltb-true, lt-ltb, ltb-false, both_ways, cases_Bool}
use Rattle.model.specs.declared.decision.Decision.TheVariants as decision
use Rattle.model.specs.declared.decision.Status.TheVariants as status
use Rattle.model.specs.Content.{Element}
use Rattle.model.specs.Lists.{At, first, later}
use Rattle.model.specs.Values.{same}
use Rattle.model.specs.Points.{Answer, answers}
use Rattle.model.specs.PointFiles.{Line, values, missing, repeated, same_line, first_line, grants_point}
use Rattle.single.proofs.Values.{same_is, same_self}
use Rattle.grants.specs.Meaning.{Lacks, Repeats, Asks, Gives, by_lack, by_repeat, by_line, by_none, FirstLine}

-- LINES

pub line_is : (l q : Line) → same_line l q ≡ true → l ≡ q
line_is l q e =
    let p = and_parts (same l.subject q.subject && same l.action q.action) (same l.resource q.resource) e in
    let o = and_parts (same l.subject q.subject) (same l.action q.action) p.0 in
    let make : List ℕ → List ℕ → Line = λ s a. record { subject = s; action = a; resource = l.resource } in
    let last : List ℕ → Line = λ r. record { subject = q.subject; action = q.action; resource = r } in
    ap₂ make (same_is _ _ o.0) (same_is _ _ o.1) ∙ ap last (same_is _ _ p.1)

pub line_self : (l : Line) → same_line l l ≡ true
line_self l = and_from _ _ (and_from _ _ (same_self l.subject) (same_self l.action)) (same_self l.resource)

none_at : (l : Line) (m : ℕ) → At m l [] → ⊥
none_at l m a = elim a [ ]

not_head : (l q : Line) (ls : List Line) → same_line l q ≡ false → ((m : ℕ) → At m q ls → ⊥) → (m : ℕ) → At m q (l ∷ ls) → ⊥
not_head l q ls e h zero first = both_ways (same_line l q) e (line_self l)
not_head l q ls e h (suc m) (later a) = h m a

not_before : (l q : Line) (ls : List Line) (n : ℕ) → same_line l q ≡ false → ((m : ℕ) → m < n → At m q ls → ⊥) → (m : ℕ) → m < suc n → At m q (l ∷ ls) → ⊥
not_before l q ls n e h zero o first = both_ways (same_line l q) e (line_self l)
not_before l q ls n e h (suc m) o (later a) = h m (omega arith) a

-- where the asked line stands among those from number k on
data Found (q : Line) (k : ℕ) (lines : List Line) : Answer → Type 0 where
  at : {n : ℕ} → At n q lines → ((m : ℕ) → m < n → At m q lines → ⊥) → Found q k lines (answers decision.Permit status.Ok (k + n))
  nowhere : ((m : ℕ) → At m q lines → ⊥) → Found q k lines (answers decision.Deny status.Ok 0)

found_later : (q l : Line) (k : ℕ) (ls : List Line) (a : Answer) → same_line l q ≡ false → Found q (k + 1) ls a → Found q k (l ∷ ls) a
found_later q l k ls a e (at {n} x h) = let s : k + suc n ≡ k + 1 + n = omega arith in subst (λ j. Found q k (l ∷ ls) (answers decision.Permit status.Ok j)) s (at (later x) (not_before l q ls n e h))
found_later q l k ls a e (nowhere h) = nowhere (not_head l q ls e h)

found_here : (q l : Line) (k : ℕ) (ls : List Line) → same_line l q ≡ true → Found q k (l ∷ ls) (answers decision.Permit status.Ok k)
found_here q l k ls e = subst (λ j. Found q k (l ∷ ls) (answers decision.Permit status.Ok j)) (add-zero k) (at (subst (λ x. At zero q (x ∷ ls)) (sym (line_is l q e)) first) (λ m o a. let z : ⊥ = omega arith in z))

found_by : (q l : Line) (k : ℕ) (ls : List Line) (b : Bool) → same_line l q ≡ b → Found q (k + 1) ls (first_line q (k + 1) ls) → Found q k (l ∷ ls) (cond b (answers decision.Permit status.Ok k) (first_line q (k + 1) ls))
found_by q l k ls true e h = found_here q l k ls e
found_by q l k ls false e h = found_later q l k ls (first_line q (k + 1) ls) e h

found : (q : Line) (k : ℕ) (lines : List Line) → Found q k lines (first_line q k lines)
found q k [] = nowhere (λ m a. none_at q m a)
found q k (l ∷ ls) = found_by q l k ls (same_line l q) refl (found q (k + 1) ls)

differs : (q l : Line) (ls : List Line) → (At zero q (l ∷ ls) → ⊥) → same_line l q ≡ false
differs q l ls h = ⊎_elim (λ t. absurd (h (subst (λ x. At zero q (x ∷ ls)) (sym (line_is l q t)) first))) (λ f. f) (cases_Bool (same_line l q))

pub first_at : (q : Line) (k n : ℕ) (lines : List Line) → At n q lines → ((m : ℕ) → m < n → At m q lines → ⊥) → first_line q k lines ≡ answers decision.Permit status.Ok (k + n)
first_at q k n [] a h = elim a [ ]
first_at q k zero (l ∷ ls) first h = cond-true _ _ _ (line_self l) ∙ ap (answers decision.Permit status.Ok) (sym (add-zero k))
first_at q k (suc n) (l ∷ ls) (later a) h =
    let e : k + 1 + n ≡ k + suc n = omega arith in
    cond-false _ _ _ (differs q l ls (h zero (omega arith))) ∙ first_at q (k + 1) n ls a (λ m o b. h (suc m) (omega arith) (later b)) ∙ ap (answers decision.Permit status.Ok) e

pub first_nowhere : (q : Line) (k : ℕ) (lines : List Line) → ((m : ℕ) → At m q lines → ⊥) → first_line q k lines ≡ answers decision.Deny status.Ok 0
first_nowhere q k [] h = refl
first_nowhere q k (l ∷ ls) h = cond-false _ _ _ (differs q l ls (h zero)) ∙ first_nowhere q (k + 1) ls (λ m b. h (suc m) (later b))

-- VALUES

missing_is : (vs : List (List ℕ)) → missing vs ≡ true → vs ≡ []
missing_is vs e = nil_from_length vs (eqb-true _ _ e)

missing_not : (vs : List (List ℕ)) → (vs ≡ [] → ⊥) → missing vs ≡ false
missing_not [] h = absurd (h refl)
missing_not (v ∷ vs) h = ne_eqb _ _ (λ e. let z : ⊥ = omega arith in z)

single : (vs : List (List ℕ)) → missing vs ≡ false → repeated vs ≡ false → vs ≡ get_or vs 0 [] ∷ []
single [] m r = absurd (both_ways true m refl)
single (v ∷ []) m r = refl
single (v ∷ w ∷ vs) m r = let l = ltb-false _ _ r in absurd (omega arith)

module _ (es : List Element) where
  abbrev s : List (List ℕ)
  s = values 2 3 es

  abbrev a : List (List ℕ)
  a = values 3 4 es

  abbrev r : List (List ℕ)
  r = values 1 1 es

  abbrev lacking : Bool
  lacking = missing s || missing a || missing r

  abbrev repeating : Bool
  repeating = repeated s || repeated a || repeated r

  abbrev asked : Line
  asked = record { subject = get_or s 0 []; action = get_or a 0 []; resource = get_or r 0 [] }

  lacks_from : lacking ≡ true → Lacks es
  lacks_from e = ⊎_elim (λ x. ⊎_elim (λ y. inl (missing_is s y)) (λ y. inr (inl (missing_is a y))) (or_cases _ _ x)) (λ x. inr (inr (missing_is r x))) (or_cases (missing s || missing a) (missing r) e)

  lacks_not : lacking ≡ false → Lacks es → ⊥
  lacks_not e l =
      let p = or_parts (missing s || missing a) (missing r) e in
      let o = or_parts (missing s) (missing a) p.0 in
      ⊎_elim (λ x. both_ways (missing s) o.0 (ap missing x)) (⊎_elim (λ x. both_ways (missing a) o.1 (ap missing x)) (λ x. both_ways (missing r) p.1 (ap missing x))) l

  repeats_from : repeating ≡ true → Repeats es
  repeats_from e = ⊎_elim (λ x. ⊎_elim (λ y. inl (ltb-true _ _ y)) (λ y. inr (inl (ltb-true _ _ y))) (or_cases _ _ x)) (λ x. inr (inr (ltb-true _ _ x))) (or_cases (repeated s || repeated a) (repeated r) e)

  repeats_not : repeating ≡ false → Repeats es → ⊥
  repeats_not e l =
      let p = or_parts (repeated s || repeated a) (repeated r) e in
      let o = or_parts (repeated s) (repeated a) p.0 in
      ⊎_elim (λ x. both_ways (repeated s) o.0 (lt-ltb 1 (length s) x)) (⊎_elim (λ x. both_ways (repeated a) o.1 (lt-ltb 1 (length a) x)) (λ x. both_ways (repeated r) p.1 (lt-ltb 1 (length r) x))) l

  asks_from : lacking ≡ false → repeating ≡ false → Asks es asked
  asks_from e f =
      let p = or_parts (missing s || missing a) (missing r) e in
      let o = or_parts (missing s) (missing a) p.0 in
      let u = or_parts (repeated s || repeated a) (repeated r) f in
      let v = or_parts (repeated s) (repeated a) u.0 in
      record { subject = single s o.0 v.0; action = single a o.1 v.1; resource = single r p.1 u.1 }

  by_found : (lines : List Line) (x : Answer) → Asks es asked → Found asked 0 lines x → Gives es lines x
  by_found lines x h (at {n} y z) = subst (λ j. Gives es lines (answers decision.Permit status.Ok j)) (sym (zero-add n)) (by_line h y z)
  by_found lines x h (nowhere z) = by_none h z

  gives_by : (lines : List Line) (b c : Bool) → lacking ≡ b → repeating ≡ c → Gives es lines (cond b (answers decision.NotApplicable status.Ok 0) (cond c (answers decision.Indeterminate status.ProcessingError 0) (first_line asked 0 lines)))
  gives_by lines true c e f = by_lack (lacks_from e)
  gives_by lines false true e f = by_repeat (lacks_not e) (repeats_from f)
  gives_by lines false false e f = by_found lines (first_line asked 0 lines) (asks_from e f) (found asked 0 lines)

  -- THE OTHER WAY ROUND

  lacks_to : Lacks es → lacking ≡ true
  lacks_to l = ⊎_elim (λ f. f) (λ e. absurd (lacks_not e l)) (cases_Bool lacking)

  lacking_not : (Lacks es → ⊥) → lacking ≡ false
  lacking_not h = ⊎_elim (λ e. absurd (h (lacks_from e))) (λ f. f) (cases_Bool lacking)

  repeats_to : Repeats es → repeating ≡ true
  repeats_to l = ⊎_elim (λ f. f) (λ e. absurd (repeats_not e l)) (cases_Bool repeating)

  module _ (l : Line) (h : Asks es l) where
    not_lacking : lacking ≡ false
    not_lacking = or_from _ _ (or_from _ _ (ap missing h.subject) (ap missing h.action)) (ap missing h.resource)

    not_repeating : repeating ≡ false
    not_repeating = or_from _ _ (or_from _ _ (ap repeated h.subject) (ap repeated h.action)) (ap repeated h.resource)

    asked_is : asked ≡ l
    asked_is =
        let make : List (List ℕ) → List (List ℕ) → Line = λ x y. record { subject = get_or x 0 []; action = get_or y 0 []; resource = get_or r 0 [] } in
        let last : List (List ℕ) → Line = λ z. record { subject = l.subject; action = l.action; resource = get_or z 0 [] } in
        ap₂ make h.subject h.action ∙ ap last h.resource

    looked_up : (lines : List Line) → grants_point lines es ≡ first_line l 0 lines
    looked_up lines = cond-false _ _ _ not_lacking ∙ cond-false _ _ _ not_repeating ∙ ap (λ q. first_line q 0 lines) asked_is

  given : (lines : List Line) (x : Answer) → Gives es lines x → grants_point lines es ≡ x
  given lines x (by_lack h) = cond-true _ _ _ (lacks_to h)
  given lines x (by_repeat h k) = cond-false _ _ _ (lacking_not h) ∙ cond-true _ _ _ (repeats_to k)
  given lines x (by_line {n} {l} h y z) = looked_up l h lines ∙ first_at l 0 n lines y z ∙ ap (answers decision.Permit status.Ok) (zero-add n)
  given lines x (by_none {l} h z) = looked_up l h lines ∙ first_nowhere l 0 lines z

pub first_line_answers : FirstLine
first_line_answers lines es x = ((λ e. subst (Gives es lines) e (gives_by es lines (lacking es) (repeating es) refl refl)), given es lines x)
