use Rattle.std.proofs.Common.{rules}
use Rattle.expansion.proofs.Codes.{code_got}
use Rattle.expansion.proofs.categories.category.Goals as goal

pub returns : goal.returns
returns c = let a = c.get.ensures.lookup in code_got c.args.elements.now c.from.result c.args.number c.get.result c.map_or.result c.from.ensures a.3 (search rules)
