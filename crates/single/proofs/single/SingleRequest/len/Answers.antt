use Rattle.single.proofs.Fitting.{exact}
use Rattle.single.proofs.single.SingleRequest.len.Goals as goal

pub returns-clause-exact : goal.returns-clause-exact
returns-clause-exact c = exact c.args.self.now
