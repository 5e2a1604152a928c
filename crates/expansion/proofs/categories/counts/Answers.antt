use Rattle.std.proofs.Common.{[], map, ap, ◌∙◌, rules}
use Rattle.expansion.specs.Few.{held}
use Rattle.expansion.specs.Categories.{firsts, count_in}
use Rattle.expansion.proofs.Fews.{mapped}
use Rattle.expansion.proofs.categories.counts.Goals as goal

pub returns : goal.returns
returns c =
    let each = c.as_slice-each.result.now in
    mapped (count_in each) _ (held c.firsts.result) (held c.map.result) c.map.ensures (λ x y r. search rules)
    ∙ ap (map (count_in each)) c.firsts.ensures
    ∙ ap (λ l. map (count_in l) (firsts [] (held c.args.codes.now))) c.as_slice-each.ensures
