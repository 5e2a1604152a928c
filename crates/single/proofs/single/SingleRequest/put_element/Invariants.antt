use Rattle.std.proofs.Common.{map, take}
use Rattle.std.specs.List.{flat_map}
use Rattle.model.specs.Spelling.{spell_attribute}
use Rattle.single.specs.Laid.{Laid}
use Rattle.single.specs.Single.{content, attributes_at}
use Rattle.single.specs.Written.{cut_attribute}
use Rattle.single.proofs.single.SingleRequest.put_element.Given as goal

abbrev pub invariant-loop-number : goal.invariant-loop-number
invariant-loop-number l =
    Laid l.initial.writer l.writer (flat_map spell_attribute (map cut_attribute (take l.number (attributes_at (content l.self) l.element))))
