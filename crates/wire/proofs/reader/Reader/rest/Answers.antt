use Rattle.wire.proofs.Clipped.{rest_clipped}
use Rattle.wire.proofs.reader.Reader.rest.Goals as goal

pub returns : goal.returns
returns c = rest_clipped c.args.self.now.bytes.now c.args.self.now.place c.min-first.result c.min-first.ensures
