use Rattle.std.proofs.Common.{◌≡◌, drop}
use Rattle.model.specs.Lists.{keep}
use Rattle.single.specs.declared.only.Only.TheVariants.{Missing}
use Rattle.single.specs.Only.{and_these}
use Rattle.expansion.specs.Asked.{with_code}
use Rattle.expansion.proofs.scope.only_with.Given as goal

abbrev pub invariant-loop-attribute : goal.invariant-loop-attribute
invariant-loop-attribute l = and_these l.only (keep (with_code l.id) (drop l.attribute-index l.attributes)) ≡ and_these Missing (keep (with_code l.id) l.attributes)
