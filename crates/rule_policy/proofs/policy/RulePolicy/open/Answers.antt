use Rattle.std.proofs.Common.{Ok, rules}
use Rattle.model.specs.PointFiles.{read_policy}
use Rattle.model.specs.PointSpelling.{PolicySpelling}
use Rattle.model.proofs.PointSpelled.{points_accepted_exactly}
use Rattle.request.proofs.Opened.{opened}
use Rattle.rule_policy.specs.Held.{rules_of_held}
use Rattle.rule_policy.specs.Place.{rules_of}
use Rattle.rule_policy.specs.Refused.{in_policy_fault}
use Rattle.rule_policy.proofs.policy.RulePolicy.open.Goals as goal

pub returns-in_err-read-clause-spelled : goal.returns-in_err-read-clause-spelled
returns-in_err-read-clause-spelled c =
    let bytes = c.args.bytes.now in
    opened in_policy_fault PolicySpelling bytes (read_policy bytes) (points_accepted_exactly.0 bytes) (rules_of c.args.self.now) c.from_residual.result (search rules)

pub returns-clause-spelled : goal.returns-clause-spelled
returns-clause-spelled c =
    let bytes = c.args.bytes.now in
    opened in_policy_fault PolicySpelling bytes (read_policy bytes) (points_accepted_exactly.0 bytes) (rules_of_held bytes c.swap.new.x) (Ok tt) (search rules)
