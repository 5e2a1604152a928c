-- What an answer says of a whole file. Assumes nothing.
use Rattle.std.specs.Prelude.{◌≡◌, ℕ, List, Ok, Err, Result}
use Rattle.model.specs.Content.{Request}
use Rattle.model.specs.Layout.{Refusal}
use Rattle.model.specs.Spelling.{SpellingOf}

module _ {Y F : Type 0} where
  -- with what is held after it
  abbrev pub answered : (F → Refusal) → Y → Result (Unit {0}) F → Result Y Refusal
  answered why y (Ok u) = Ok y
  answered why y (Err e) = Err (why e)

  -- the same as a relation
  abbrev pub Answers : (F → Refusal) → Y → Result (Unit {0}) F → Result Y Refusal → Type 0
  Answers why y (Ok u) z = Ok y ≡ z
  Answers why y (Err e) z = Err (why e) ≡ z

  -- accepted bytes are the spelling of what is then held; refused ones are the spelling of nothing
  abbrev pub OpenedAs : (List ℕ → Y → Type 0) → List ℕ → Y → Result (Unit {0}) F → Type 0
  OpenedAs Spelling bytes y (Ok u) = Spelling bytes y
  OpenedAs Spelling bytes y (Err e) = (other : Y) → Spelling bytes other → ⊥

-- the same of a request
abbrev pub Opened : {F : Type 0} → List ℕ → Request → Result (Unit {0}) F → Type 0
Opened bytes q (Ok u) = SpellingOf bytes q
Opened bytes q (Err e) = (other : Request) → SpellingOf bytes other → ⊥
