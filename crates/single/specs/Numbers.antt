-- Elements by their numbers. Assumes nothing.
use Rattle.std.specs.Prelude.{ℕ, ◌+◌, max, List, [], ◌∷◌, map, Some, None, Option, slice_index_or}
use Rattle.model.specs.Content.{Element}
use Rattle.model.specs.Lists.{nth}

-- the first number past all of them
abbrev pub past : List ℕ → ℕ
past [] = 0
past (k ∷ ks) = max (k + 1) (past ks)

abbrev pub blank : Element
blank = record { category = 0; tag = None; attributes = [] }

abbrev pub numbered : List Element → ℕ → Element
numbered es k = slice_index_or es k blank

-- the elements of these numbers, each of which names one
abbrev pub picked : List Element → List ℕ → List Element
picked es ks = map (numbered es) ks

abbrev pub before : Option Element → Option (List Element) → Option (List Element)
before None rest = None
before (Some e) None = None
before (Some e) (Some es) = Some (e ∷ es)

-- the elements of these numbers, or none at all where one of the numbers names no element
abbrev pub all_at : List Element → List ℕ → Option (List Element)
all_at es [] = Some []
all_at es (k ∷ ks) = before (nth es k) (all_at es ks)
