-- One choice after the other gives all choices. Assumes nothing.
use Rattle.std.proofs.Common.{◌≡◌, ℕ, zero, suc, ◌+◌, ◌-◌, ◌<◌, ◌≤◌, Bool, true, false, cond, ltb, List, [], ◌∷◌, ◌++◌, map, length, get_or, take, drop, set, replicate, Some, None, Option, sym, refl, ap, ◌∙◌, ap₂, arith}
use Rattle.std.specs.List.{flat_map}
use Rattle.std.proofs.lemmas.List.{drop_more}
use Rattle.std.proofs.lemmas.Bool.{cond-true, cond-false, and_parts, ltb-true, ltb-false, lt-ltb, le-ltb}
use Rattle.model.specs.Lists.{upto}
use Rattle.model.specs.Rows.{each_after, choices}
use Rattle.expansion.specs.Choice.{positive, zeros, choices_from, after_choice, carry, next_choice, from_choice}

-- one position of a first category more
from_more : (p w : ℕ) (ws : List ℕ) → p < w → choices_from p w ws ≡ each_after (choices ws) p ++ choices_from (p + 1) w ws
from_more p w ws h =
    let e : w - p ≡ suc (w - (p + 1)) = omega arith in
    ap (λ n. flat_map (each_after (choices ws)) (upto p n)) e

from_none : (p w : ℕ) (ws : List ℕ) → w ≤ p → choices_from p w ws ≡ []
from_none p w ws h = let e : w - p ≡ 0 = omega arith in ap (λ n. flat_map (each_after (choices ws)) (upto p n)) e

pub first_walk : (ws : List ℕ) → positive ws ≡ true → choices ws ≡ zeros ws ∷ after_choice ws (zeros ws)
first_walk [] h = refl
first_walk (w ∷ ws) h =
    let a = and_parts (ltb 0 w) (positive ws) h in
    let l = ltb-true 0 w a.0 in
    let z : w ≡ w - 0 = omega arith in
    ap (λ n. flat_map (each_after (choices ws)) (upto 0 n)) z
    ∙ from_more 0 w ws l
    ∙ ap (λ cs. each_after cs 0 ++ choices_from 1 w ws) (first_walk ws a.1)

pub all_zeros : (ws : List ℕ) → map (λ (w : ℕ). 0) ws ≡ zeros ws
all_zeros [] = refl
all_zeros (w ∷ ws) = ap {B = List ℕ} (λ l. 0 ∷ l) (all_zeros ws)

same_zeros : (ws ps : List ℕ) → length ps ≡ length ws → zeros ws ≡ zeros ps
same_zeros ws ps e = ap (λ n. replicate n 0) (sym e)

pub next_walk : (ws ps : List ℕ) → positive ws ≡ true → length ps ≡ length ws → after_choice ws ps ≡ from_choice ws (next_choice ws ps)
next_walk [] ps h l = refl
next_walk (w ∷ ws) [] h l = absurd (omega arith)
next_walk (w ∷ ws) (p ∷ ps) h l =
    let a = and_parts (ltb 0 w) (positive ws) h in
    let m : length ps ≡ length ws = omega arith in
    step (next_choice ws ps) (next_walk ws ps a.1 m) a.1 m
  where
    moves : (b : Bool) → ltb (p + 1) w ≡ b → positive ws ≡ true → length ps ≡ length ws
        → choices_from (p + 1) w ws ≡ from_choice (w ∷ ws) (cond b (Some ((p + 1) ∷ zeros ps)) None)
    moves true e h m =
        from_more (p + 1) w ws (ltb-true _ _ e)
        ∙ ap (λ cs. each_after cs (p + 1) ++ choices_from (p + 1 + 1) w ws) (first_walk ws h)
        ∙ ap (λ z. ((p + 1) ∷ z) ∷ (each_after (after_choice ws z) (p + 1) ++ choices_from (p + 1 + 1) w ws)) (same_zeros ws ps m)
    moves false e h m = from_none (p + 1) w ws (ltb-false _ _ e)

    step : (o : Option (List ℕ)) → after_choice ws ps ≡ from_choice ws o → positive ws ≡ true → length ps ≡ length ws
        → each_after (after_choice ws ps) p ++ choices_from (p + 1) w ws ≡ from_choice (w ∷ ws) (carry w p ps o)
    step (Some qs) e h m = ap (λ cs. each_after cs p ++ choices_from (p + 1) w ws) e
    step None e h m = ap (λ cs. each_after cs p ++ choices_from (p + 1) w ws) e ∙ moves (ltb (p + 1) w) refl h m

-- THE LAST THAT CAN MOVES ON

-- what stands before the part that moves stays
before_stays : (i : ℕ) (ws ps qs : List ℕ) → next_choice (drop i ws) (drop i ps) ≡ Some qs → next_choice ws ps ≡ Some (take i ps ++ qs)
before_stays zero ws ps qs e = e
before_stays (suc i) [] ps qs e = let z : ◌≡◌ {A = ℕ} 0 1 = cc in absurd (omega arith)
before_stays (suc i) (w ∷ ws) [] qs e = nothing (drop i ws) e
  where
    nothing : (vs : List ℕ) → next_choice vs [] ≡ Some qs → next_choice (w ∷ ws) [] ≡ Some (take (suc i) [] ++ qs)
    nothing [] e = let z : ◌≡◌ {A = ℕ} 0 1 = cc in absurd (omega arith)
    nothing (v ∷ vs) e = let z : ◌≡◌ {A = ℕ} 0 1 = cc in absurd (omega arith)
before_stays (suc i) (w ∷ ws) (p ∷ ps) qs e = ap (carry w p ps) (before_stays i ws ps qs e)

-- at position i of both lists, where nothing after it, from n on, can move
module _ (ws ps : List ℕ) (n i : ℕ) (e : n ≡ i + 1) (iw : i < length ws) (ip : i < length ps) (still : next_choice (drop n ws) (drop n ps) ≡ None) where
  still_next : next_choice (drop (i + 1) ws) (drop (i + 1) ps) ≡ None
  still_next = ap (λ k. next_choice (drop k ws) (drop k ps)) (sym e) ∙ still

  here : next_choice (drop i ws) (drop i ps) ≡ cond (ltb (get_or ps i 0 + 1) (get_or ws i 0)) (Some ((get_or ps i 0 + 1) ∷ zeros (drop (i + 1) ps))) None
  here = ap₂ next_choice (drop_more ws i 0 iw) (drop_more ps i 0 ip) ∙ ap (carry (get_or ws i 0) (get_or ps i 0) (drop (i + 1) ps)) still_next

  pub moves_here : get_or ps i 0 + 1 < get_or ws i 0 → next_choice ws ps ≡ Some (take i ps ++ (get_or ps i 0 + 1) ∷ zeros (drop (i + 1) ps))
  moves_here l = before_stays i ws ps _ (here ∙ cond-true _ _ _ (lt-ltb _ _ l))

  pub still_here : get_or ws i 0 ≤ get_or ps i 0 + 1 → next_choice (drop i ws) (drop i ps) ≡ None
  still_here l = here ∙ cond-false _ _ _ (le-ltb _ _ l)

-- the positions before i, and zeros from i on
abbrev pub cleared : ℕ → List ℕ → List ℕ
cleared i ps = take i ps ++ zeros (drop i ps)

set_cleared : (i : ℕ) (ps : List ℕ) (x : ℕ) → i < length ps → set (cleared (suc i) ps) i x ≡ take i ps ++ x ∷ zeros (drop (suc i) ps)
set_cleared i [] x h = absurd (omega arith)
set_cleared zero (p ∷ ps) x h = refl
set_cleared (suc i) (p ∷ ps) x h = ap {B = List ℕ} (λ l. p ∷ l) (set_cleared i ps x (omega arith))

pub put_cleared : (n i : ℕ) → n ≡ i + 1 → (ps held new : List ℕ) (x : ℕ) → i < length ps → held ≡ cleared n ps → new ≡ set held i x → new ≡ take i ps ++ x ∷ zeros (drop (i + 1) ps)
put_cleared n i is ps held new x h e q =
    let s : n ≡ suc i = omega arith in
    let t : suc i ≡ i + 1 = omega arith in
    q ∙ ap (λ l. set l i x) (e ∙ ap (λ k. cleared k ps) s) ∙ set_cleared i ps x h ∙ ap (λ k. take i ps ++ x ∷ zeros (drop k ps)) t

pub zero_cleared : (i : ℕ) (ps : List ℕ) → i < length ps → take i ps ++ 0 ∷ zeros (drop (i + 1) ps) ≡ cleared i ps
zero_cleared i ps h = ap (λ l. take i ps ++ zeros l) (sym (drop_more ps i 0 h))
