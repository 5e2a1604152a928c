-- Categories as codes alone. Assumes nothing.
use Rattle.std.specs.Prelude.{ℕ, zero, suc, cond, List, [], ◌∷◌, ◌++◌, ◌==◌, nat_eq}
use Rattle.model.specs.Content.{Element}
use Rattle.model.specs.Lists.{any}
use Rattle.model.specs.Rows.{occurrences, taken}
use Rattle.request.specs.declared.content.Element.{Element as HeldElement}
use Rattle.single.specs.Numbers.{numbered}

-- the category of the element of a number; 0 past the last
abbrev pub code_in : List HeldElement → ℕ → ℕ
code_in [] k = 0
code_in (e ∷ es) zero = e.category
code_in (e ∷ es) (suc k) = code_in es k

abbrev pub code_at : List Element → ℕ → ℕ
code_at es k = (numbered es k).category

-- each code once, by first appearance, without those seen
abbrev pub firsts : List ℕ → List ℕ → List ℕ
firsts seen [] = []
firsts seen (c ∷ cs) = cond (any (nat_eq c) seen) (firsts seen cs) (c ∷ firsts (seen ++ c ∷ []) cs)

abbrev pub count_in : List ℕ → ℕ → ℕ
count_in codes c = occurrences c codes

-- the numbers that a choice takes, by the codes beside them; `earlier` has the codes before
abbrev pub picks : List ℕ → List ℕ → List ℕ → List ℕ → List ℕ → List ℕ
picks cs ps earlier [] codes = []
picks cs ps earlier (k ∷ ks) [] = []
picks cs ps earlier (k ∷ ks) (c ∷ codes) =
    cond (occurrences c earlier == taken cs ps c) (k ∷ picks cs ps (earlier ++ c ∷ []) ks codes) (picks cs ps (earlier ++ c ∷ []) ks codes)
