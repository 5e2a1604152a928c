-- Opening, in terms of spellings. Assumes nothing.
use Rattle.std.proofs.Common.{◌≡◌, ℕ, ◌↔◌, List, Ok, Err, Result, sym, arith}
use Rattle.model.specs.Content.{Request}
use Rattle.model.specs.Layout.{Refusal}
use Rattle.model.specs.Spelling.{SpellingOf}
use Rattle.request.specs.Answered.{answered, Opened, OpenedAs}

-- z is read of the bytes, and is accepted exactly where they spell it
module _ {Y F : Type 0} (why : F → Refusal) (Spelling : List ℕ → Y → Type 0) (bytes : List ℕ) (z : Result Y Refusal) (exactly : (y : Y) → (z ≡ Ok y) ↔ Spelling bytes y) (y : Y) where
  pub opened : (r : Result (Unit {0}) F) → answered why y r ≡ z → OpenedAs Spelling bytes y r
  opened (Ok u) e = (exactly y).0 (sym e)
  opened (Err x) e = λ other s. let ok = (exactly other).1 s in let absent : ◌≡◌ {A = ℕ} 0 1 = cc in omega arith

pub of_a_request : {F : Type 0} (bytes : List ℕ) (q : Request) (r : Result (Unit {0}) F) → OpenedAs SpellingOf bytes q r → Opened bytes q r
of_a_request bytes q (Ok u) h = h
of_a_request bytes q (Err e) h = h
