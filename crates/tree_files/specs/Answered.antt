-- What an answer says of a whole file. Assumes nothing.
use Rattle.std.specs.Prelude.{◌≡◌, ℕ, List, Ok, Err, Result}
use Rattle.model.specs.Layout.{Refusal}
use Rattle.model.specs.Tree.{Tree}

module _ {Y F : Type 0} where
  -- with what is held after it
  abbrev pub answered : (F → Refusal) → Y → Result (Unit {0}) F → Result Y Refusal
  answered why y (Ok u) = Ok y
  answered why y (Err e) = Err (why e)

  -- the same as a relation
  abbrev pub Answers : (F → Refusal) → Y → Result (Unit {0}) F → Result Y Refusal → Type 0
  Answers why y (Ok u) z = Ok y ≡ z
  Answers why y (Err e) z = Err (why e) ≡ z

-- accepted bytes are the spelling of what is then held; refused ones are the spelling of nothing
abbrev pub Opened : {F : Type 0} → (List ℕ → Tree → Type 0) → List ℕ → Tree → Result (Unit {0}) F → Type 0
Opened Spelling bytes tree (Ok u) = Spelling bytes tree
Opened Spelling bytes tree (Err e) = (other : Tree) → Spelling bytes other → ⊥
