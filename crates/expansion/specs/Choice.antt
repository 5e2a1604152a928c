-- One choice after the other: the last category that can moves on, and those after it start anew. Assumes nothing.
use Rattle.std.specs.Prelude.{◌≡◌, ℕ, ◌+◌, ◌-◌, Bool, true, cond, ◌&&◌, List, [], ◌∷◌, ◌++◌, length, replicate, Some, None, Option, nat_lt}
use Rattle.std.specs.List.{flat_map}
use Rattle.model.specs.Lists.{upto}
use Rattle.model.specs.Rows.{each_after, choices}
use Rattle.expansion.specs.declared.few.Few.{Few}
use Rattle.expansion.specs.Few.{held}

-- each category has an element
abbrev pub positive : List ℕ → Bool
positive [] = true
positive (w ∷ ws) = nat_lt 0 w && positive ws

-- the first position of each category
abbrev pub zeros : List ℕ → List ℕ
zeros ws = replicate (length ws) 0

-- the choices that take position p or a later one of a first category
abbrev pub choices_from : ℕ → ℕ → List ℕ → List (List ℕ)
choices_from p w ws = flat_map (each_after (choices ws)) (upto p (w - p))

-- the choices after one
abbrev pub after_choice : List ℕ → List ℕ → List (List ℕ)
after_choice [] ps = []
after_choice (w ∷ ws) [] = []
after_choice (w ∷ ws) (p ∷ ps) = each_after (after_choice ws ps) p ++ choices_from (p + 1) w ws

-- one position before the choice of the later categories; where they have no next choice, the position moves on and they start anew
abbrev pub carry : ℕ → ℕ → List ℕ → Option (List ℕ) → Option (List ℕ)
carry w p ps None = cond (nat_lt (p + 1) w) (Some ((p + 1) ∷ zeros ps)) None
carry w p ps (Some qs) = Some (p ∷ qs)

-- the choice after one, if there is one
abbrev pub next_choice : List ℕ → List ℕ → Option (List ℕ)
next_choice [] ps = None
next_choice (w ∷ ws) [] = None
next_choice (w ∷ ws) (p ∷ ps) = carry w p ps (next_choice ws ps)

-- a choice and those after it, or nothing
abbrev pub from_choice : List ℕ → Option (List ℕ) → List (List ℕ)
from_choice ws None = []
from_choice ws (Some ps) = ps ∷ after_choice ws ps

-- one position for each category
abbrev pub Long : List ℕ → Option Few → Type 0
Long ws None = Unit {0}
Long ws (Some f) = length (held f) ≡ length ws
