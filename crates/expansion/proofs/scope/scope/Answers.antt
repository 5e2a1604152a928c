use Rattle.std.proofs.Common.{◌∙◌}
use Rattle.request.specs.Place.{content_of}
use Rattle.single.specs.declared.only.Only.TheVariants.{Missing, One, Several}
use Rattle.expansion.proofs.Scoped.{scope_shown}
use Rattle.expansion.proofs.scope.scope.Goals as goal

pub returns-in-Missing : goal.returns-in-Missing
returns-in-Missing g c =
    let p = c.args.request.now in
    scope_shown (g.T.Tree.meaning c.args.tree.now) p.bytes.now c.args.element (content_of p).elements c.attributes-attributes.result.now c.only_with-id.result Missing c.attributes-attributes.ensures c.only_with-id.ensures c.in-Missing.ensures

pub returns-in-Several : goal.returns-in-Several
returns-in-Several g c =
    let p = c.args.request.now in
    scope_shown (g.T.Tree.meaning c.args.tree.now) p.bytes.now c.args.element (content_of p).elements c.attributes-attributes.result.now c.only_with-id.result Several c.attributes-attributes.ensures c.only_with-id.ensures c.in-Several.ensures

pub returns-in-One : goal.returns-in-One
returns-in-One g c =
    let p = c.args.request.now in
    c.by_scope.ensures
    ∙ scope_shown (g.T.Tree.meaning c.args.tree.now) p.bytes.now c.args.element (content_of p).elements c.attributes-attributes.result.now c.only_with-id.result (One c.in-One.scope) c.attributes-attributes.ensures c.only_with-id.ensures c.in-One.ensures
