use Rattle.std.proofs.Common.{◌≡◌, ◌+◌, ◌-◌, ◌++◌, length, drop}
use Rattle.model.specs.PointFiles.{truth, in_category}
use Rattle.single.specs.Single.{content, attributes_at}
use Rattle.rule_policy.specs.Held.{condition_of}
use Rattle.rule_policy.proofs.Judging.{judge}
use Rattle.rule_policy.proofs.deciding.truth.Given as goal

abbrev pub invariant-loop-j : goal.invariant-loop-j
invariant-loop-j l =
    judge (condition_of l.texts l.condition) l.compared (drop l.j (attributes_at (content l.request) l.i) ++ in_category l.condition.category (drop (l.i + 1) (content l.request)))
    ≡ truth (content l.request) (condition_of l.texts l.condition)

abbrev pub invariant-elements : goal.invariant-elements
invariant-elements l =
    judge (condition_of l.texts l.condition) l.compared (in_category l.condition.category (drop l.i (content l.request)))
    ≡ truth (content l.request) (condition_of l.texts l.condition)

abbrev pub decreases-elements : goal.decreases-elements
decreases-elements l = length (content l.request) - l.i
