-- What a spot of the code means, over a tree and the elements of a request. Assumes nothing.
use Rattle.std.specs.Prelude.{ℕ, ◌≤◌, List, length, Some, None, Option}
use Rattle.std.specs.Option.{option_map}
use Rattle.model.specs.Content.{Element}
use Rattle.model.specs.Tree.{Tree}
use Rattle.model.specs.Rows.{Basis, fault, single, single_request, Spot}
use Rattle.single.specs.Numbers.{past}
use Rattle.expansion.specs.Few.{held}
use Rattle.expansion.specs.Listed.{listed_of}
use Rattle.cursor.specs.declared.spot.Basis.{Basis as ToldBasis}
use Rattle.cursor.specs.declared.spot.Basis.TheVariants.{Fault, Single}
use Rattle.cursor.specs.declared.spot.Spot.{Spot as ToldSpot}

module _ (tree : Tree) (es : List Element) where
  abbrev pub basis_of : Option ℕ → ToldBasis → Basis
  basis_of n (Fault cause place) = fault cause place
  basis_of n (Single chosen) = single (single_request tree n (listed_of es (held chosen)))

  abbrev pub spot_of : ToldSpot → Spot
  spot_of s = record { reference = s.reference; choice = option_map held s.choice; node = s.node; basis = basis_of s.node s.basis }

-- each chosen number names an element
abbrev pub BasisNames : List Element → ToldBasis → Type 0
BasisNames es (Fault cause place) = Unit {0}
BasisNames es (Single chosen) = past (held chosen) ≤ length es

abbrev pub SpotNames : List Element → Option ToldSpot → Type 0
SpotNames es None = Unit {0}
SpotNames es (Some s) = BasisNames es s.basis
