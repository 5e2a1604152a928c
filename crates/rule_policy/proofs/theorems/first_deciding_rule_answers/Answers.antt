use Rattle.rule_policy.proofs.Meant.{first_deciding_rule}
use Rattle.rule_policy.proofs.theorems.first_deciding_rule_answers.Goals as goal

pub returns : goal.returns
returns c = first_deciding_rule
