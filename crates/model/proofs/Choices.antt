-- The choices are exactly the positions within the widths, in order. Assumes nothing.
use Rattle.std.proofs.Common.{ℕ, ◌<◌, List, [], ◌∷◌, sym, refl, subst, arith}
use mathlib.Core.List.Memᴰ
use mathlib.Core.List.{Memᴰ}
use Rattle.model.specs.Order.{Sorted}
use Rattle.model.specs.Lists.{upto}
use Rattle.model.specs.Rows.{each_after, choices}
use Rattle.model.specs.Meaning.{Less}
use Rattle.model.proofs.Members.{sorted_map, mem_upto, of_upto, sorted_upto, mem_joined, of_joined, sorted_joined}

-- each position lies below the width of its category
pub data Within : List ℕ → List ℕ → Type 0 where
  nothing : Within [] []
  one_more : {p w : ℕ} {ps ws : List ℕ} → p < w → Within ps ws → Within (p ∷ ps) (w ∷ ws)

pub mem_choices : (ps ws : List ℕ) → Within ps ws → Memᴰ ps (choices ws)
mem_choices ps ws Within.nothing = Memᴰ.head refl
mem_choices ps ws (Within.one_more {p} {w} {ps = qs} {ws = vs} l c) =
    mem_joined (each_after (choices vs)) p (p ∷ qs) (upto 0 w) (mem_upto p 0 w (omega arith) (omega arith))
    (Memᴰ.map (λ (t : List ℕ). p ∷ t) (mem_choices qs vs c))

pub of_choices : (ps ws : List ℕ) → Memᴰ ps (choices ws) → Within ps ws
of_choices ps [] m = subst (λ t. Within t []) (sym (Memᴰ.eq_of_singleton m)) Within.nothing
of_choices ps (w ∷ ws) m =
    let r = of_joined (each_after (choices ws)) ps (upto 0 w) m in
    let s = Memᴰ.of_map (λ (t : List ℕ). r.0 ∷ t) (choices ws) r.2 in
    let u = of_upto r.0 0 w r.1 in
    subst (λ t. Within t (w ∷ ws)) s.2 (Within.one_more (omega arith) (of_choices s.0 ws s.1))

pub sorted_choices : (ws : List ℕ) → Sorted Less (choices ws)
sorted_choices [] = (λ y m. absurd (Memᴰ.not-nil m), tt)
sorted_choices (w ∷ ws) =
    sorted_joined (each_after (choices ws)) (λ x y. x < y) Less (upto 0 w) (sorted_upto 0 w)
    (λ q m. sorted_map (λ (t : List ℕ). q ∷ t) Less Less (λ x y l. Less.then_on l) (choices ws) (sorted_choices ws))
    (λ p q u v l m n.
    let a = Memᴰ.of_map (λ (t : List ℕ). p ∷ t) (choices ws) m in
    let b = Memᴰ.of_map (λ (t : List ℕ). q ∷ t) (choices ws) n in
    subst (λ t. Less u t) b.2 (subst (λ t. Less t (q ∷ b.0)) a.2 (Less.at_first l)))
