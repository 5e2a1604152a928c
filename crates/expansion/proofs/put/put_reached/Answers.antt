use Rattle.std.proofs.Common.{refl, sym, ap, ◌∙◌}
use Rattle.single.specs.Single.{chosen_of, content}
use Rattle.expansion.proofs.Putting.{name_or_empty, put_node}
use Rattle.expansion.proofs.put.put_reached.Goals as goal

pub returns : goal.returns
returns g c = λ ls e.
    let tree = g.T.Tree.meaning c.args.tree.now in
    put_node tree c.args.node ls c.unwrap_or.result.now (chosen_of c.args.single.now) (content c.at.result)
    (name_or_empty tree.names c.args.node c.name.result _ refl c.name.ensures ∙ ap (λ b. b.now) (sym c.unwrap_or.ensures)) e c.at.ensures.content
