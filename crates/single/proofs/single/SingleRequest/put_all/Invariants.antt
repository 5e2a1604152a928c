use Rattle.std.proofs.Common.{map, take}
use Rattle.std.specs.List.{flat_map}
use Rattle.model.specs.Spelling.{spell_element}
use Rattle.single.specs.Laid.{Laid}
use Rattle.single.specs.Single.{content}
use Rattle.single.specs.Written.{cut_element}
use Rattle.single.proofs.single.SingleRequest.put_all.Given as goal

abbrev pub invariant-loop-element : goal.invariant-loop-element
invariant-loop-element l = Laid l.initial.writer l.writer (flat_map spell_element (map cut_element (take l.element (content l.self))))
