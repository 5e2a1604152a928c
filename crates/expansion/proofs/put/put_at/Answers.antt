use Rattle.std.proofs.Common.{ap, ◌∙◌}
use Rattle.std.specs.Option.{option_map}
use Rattle.single.specs.Single.{chosen_of, content}
use Rattle.expansion.proofs.Putting.{node_there, node_past}
use Rattle.expansion.proofs.put.put_at.Goals as goal

pub returns-in_err-name : goal.returns-in_err-name
returns-in_err-name g c = λ ls e. ap (option_map content) c.from_residual.ensures ∙ node_past (g.T.Tree.meaning c.args.tree.now) c.args.node ls (c.in_err-name.ensures {u = tt})

pub returns : goal.returns
returns g c = λ ls e.
    node_there (g.T.Tree.meaning c.args.tree.now) c.args.node ls c.in_ok-name.name.now (chosen_of c.args.single.now) (content c.at.result) c.in_ok-name.ensures e c.at.ensures.content
