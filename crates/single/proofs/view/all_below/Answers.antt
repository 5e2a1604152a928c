use Rattle.std.proofs.Common.{ltb, ◌∙◌, rules, tests}
use Rattle.std.proofs.lemmas.Iterator.{YieldsList-from_slice}
use Rattle.std.proofs.lemmas.Iterator.Search.{all_from_yields_List}
use Rattle.single.proofs.Numbers.{all_past}
use Rattle.single.proofs.view.all_below.Goals as goal

pub returns : goal.returns
returns c =
    all_from_yields_List (λ k. ltb k c.args.elements) _ _ _ c.all.ensures.ran (YieldsList-from_slice c.args.numbers.now cc) (λ x b q k. search (rules, tests))
    ∙ all_past c.args.numbers.now c.args.elements
