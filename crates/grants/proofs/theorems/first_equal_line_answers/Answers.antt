use Rattle.grants.proofs.Meant.{first_line_answers}
use Rattle.grants.proofs.theorems.first_equal_line_answers.Goals as goal

pub returns : goal.returns
returns c = first_line_answers
