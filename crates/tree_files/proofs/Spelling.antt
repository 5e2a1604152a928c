-- Opening, in terms of spellings. Assumes nothing.
use Rattle.std.proofs.Common.{◌≡◌, ℕ, ◌↔◌, List, get_or, Ok, Err, Result, sym, w8, Fits}
use Rattle.model.specs.Layout.{Refusal}
use Rattle.model.specs.Tree.{Tree}
use Rattle.model.specs.TreeSpelling.{Bytes}
use Rattle.wire.proofs.Small.{all_bytes}
use Rattle.tree_files.specs.Answered.{answered, Opened}

module _ {F : Type 0} (why : F → Refusal) (reading : List ℕ → Result Tree Refusal) (Spelling : List ℕ → Tree → Type 0)
    (exactly : (bytes : List ℕ) (tree : Tree) → Bytes bytes → (reading bytes ≡ Ok tree) ↔ Spelling bytes tree)
    (bytes : List ℕ) (small : (i : ℕ) → Fits w8 (get_or bytes i 0)) (tree : Tree) where
  pub opened : (r : Result (Unit {0}) F) → answered why tree r ≡ reading bytes → Opened Spelling bytes tree r
  opened (Ok u) e = (exactly bytes tree (all_bytes bytes small)).0 (sym e)
  opened (Err x) e = λ other s. let ok = (exactly bytes other (all_bytes bytes small)).1 s in cc
