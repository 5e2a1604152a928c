use Rattle.std.proofs.Common.{eqb, refl, rules}
use Rattle.std.proofs.lemmas.List.Recursion.{is_count_by}
use Rattle.model.specs.Rows.{occurrences}
use Rattle.expansion.proofs.categories.occurrences.Goals as goal

pub returns : goal.returns
returns c = let e = is_count_by (occurrences c.args.code) (λ x. eqb x c.args.code) refl (λ _ _. refl) c.args.codes.now in search (rules, e)
