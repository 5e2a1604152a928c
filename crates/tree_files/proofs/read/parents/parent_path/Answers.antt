use Rattle.std.proofs.Common.{List, ℕ, Bor, sym, subst}
use Rattle.std.specs.Option.{option_map}
use Rattle.tree_files.specs.Segments.{Parent}
use Rattle.tree_files.proofs.Segments.{no_separator, last_empty, last_parent}
use Rattle.tree_files.proofs.read.parents.parent_path.Goals as goal

pub returns-in_err-place : goal.returns-in_err-place
returns-in_err-place c = subst (λ o. Parent c.args.path.now (option_map (λ (x : Bor (List ℕ)). x.now) o)) (sym c.from_residual.ensures) (no_separator c.args.path.now c.in_err-place.ensures)

pub returns-then-place-path : goal.returns-then-place-path
returns-then-place-path c = last_parent c.args.path.now c.in_ok-place.place c.in_ok-place.ensures c.if-place-path.true

pub returns-else-place-path : goal.returns-else-place-path
returns-else-place-path c = last_empty c.args.path.now c.in_ok-place.place c.in_ok-place.ensures c.if-place-path.false
