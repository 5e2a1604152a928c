use Rattle.wire.proofs.Clipped.{part_clipped}
use Rattle.wire.proofs.span.part.Goals as goal

pub returns : goal.returns
returns g c = part_clipped c.args.items.now c.args.span.first c.args.span.count c.min-first.result c.min.result c.min-first.ensures c.min.ensures
