use Rattle.std.proofs.Common.{◌≡◌, ◌+◌, ◌++◌, drop}
use Rattle.model.specs.PointFiles.{in_category, values}
use Rattle.single.specs.Single.{content, attributes_at}
use Rattle.grants.specs.Found.{given as given_by, found_in}
use Rattle.grants.proofs.Granting.{gather, values_left}
use Rattle.grants.proofs.deciding.find.Given as goal

abbrev pub invariant-loop-j : goal.invariant-loop-j
invariant-loop-j l =
    gather (found_in l.request l.found) (values_left l.id (drop l.j (attributes_at (content l.request) l.i) ++ in_category l.category (drop (l.i + 1) (content l.request))))
    ≡ given_by (values l.category l.id (content l.request))

abbrev pub invariant-loop-i : goal.invariant-loop-i
invariant-loop-i l =
    gather (found_in l.request l.found) (values_left l.id (in_category l.category (drop l.i (content l.request))))
    ≡ given_by (values l.category l.id (content l.request))
