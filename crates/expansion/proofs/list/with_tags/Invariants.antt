use Rattle.std.proofs.Common.{◌≡◌, ◌≤◌, length, drop}
use Rattle.model.specs.Rows.{all_listed, listing}
use Rattle.request.specs.Place.{content_of}
use Rattle.single.specs.Numbers.{past}
use Rattle.expansion.specs.Few.{held}
use Rattle.expansion.specs.Listed.{listed_of}
use Rattle.expansion.proofs.Naming.{onto}
use Rattle.expansion.proofs.list.with_tags.Given as goal

abbrev pub invariant-loop-position : goal.invariant-loop-position
invariant-loop-position l =
    (onto (listed_of (content_of l.request).elements (held l.listed)) (listing (all_listed (content_of l.request)) l.position (drop l.position l.tags))
    ≡ listing (all_listed (content_of l.request)) 0 l.tags)
    × (length (held l.listed) ≡ l.position)
    × (past (held l.listed) ≤ length (content_of l.request).elements)
