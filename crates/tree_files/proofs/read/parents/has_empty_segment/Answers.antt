use Rattle.std.proofs.Common.{ℕ, List, length, ◌∙◌, rules}
use Rattle.std.proofs.lemmas.Iterator.Search.{any_from_yields_List}
use Rattle.std.proofs.lemmas.Iterator.Splits.{YieldsList-from_slice_split}
use Rattle.std.proofs.Common.{eqb}
use Rattle.model.specs.TreeFiles.{separator}
use Rattle.tree_files.proofs.Segments.{hollow_split}
use Rattle.tree_files.proofs.read.parents.has_empty_segment.Goals as goal

pub returns : goal.returns
returns c =
    any_from_yields_List (λ (part : List ℕ). eqb (length part) 0) _ _ _ c.any.ensures.ran
    (YieldsList-from_slice_split _ (λ b. eqb b separator) c.args.path.now c.split.ensures.rest c.split.ensures.done c.split.ensures.closure (λ x b q k. search rules))
    (λ x b q k. search rules)
    ∙ hollow_split c.args.path.now
