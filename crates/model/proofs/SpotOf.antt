-- The spots of a request as a relation over the functions of Rows: half way between those and the relations of Meaning. Assumes nothing.
use Rattle.std.proofs.Common.{◌≡◌, ℕ, List, Some, None}
use Rattle.model.specs.declared.decision.Cause.{Cause}
use Rattle.model.specs.declared.decision.Cause.TheVariants.{UnknownTag}
use Rattle.model.specs.Content.{Request}
use Rattle.model.specs.Lists.{At}
use Rattle.model.specs.Tree.{Tree, Distance, Extent}
use Rattle.model.specs.Rows.{Listed, listings, widths, chosen, scope, Spot, single_spot, fault_spot, resource, lists, unknown, faulty, itself, below}
use Rattle.model.specs.Meaning.{InExtent, Stand, stand, Before}
use Rattle.model.proofs.Choices.{Within}

-- the spot of a row of the request, and its distance from the asked node, 0 where the row has no node
pub data IsSpotOf (q : Request) (tree : Tree) : Spot → ℕ → Type 0 where
  bad_reference : {r p : ℕ} → At r (unknown p) (listings q) → IsSpotOf q tree (fault_spot r None UnknownTag p) 0
  no_resource : {r : ℕ} {ls : List Listed} {ps : List ℕ} → At r (lists ls) (listings q) → Within ps (widths ls)
      → resource (chosen ls ps) ≡ None → IsSpotOf q tree (single_spot tree r ps (chosen ls ps) None) 0
  bad_scope : {r : ℕ} {c : Cause} {ls : List Listed} {ps : List ℕ} {l : Listed} → At r (lists ls) (listings q) → Within ps (widths ls)
      → resource (chosen ls ps) ≡ Some l → scope tree l.element ≡ faulty c → IsSpotOf q tree (fault_spot r (Some ps) c l.number) 0
  whole : {r : ℕ} {ls : List Listed} {ps : List ℕ} {l : Listed} → At r (lists ls) (listings q) → Within ps (widths ls)
      → resource (chosen ls ps) ≡ Some l → scope tree l.element ≡ itself → IsSpotOf q tree (single_spot tree r ps (chosen ls ps) None) 0
  at_node : {r a n d : ℕ} {ls : List Listed} {ps : List ℕ} {l : Listed} {x : Extent} → At r (lists ls) (listings q) → Within ps (widths ls)
      → resource (chosen ls ps) ≡ Some l → scope tree l.element ≡ below x a → Distance tree a n d → InExtent x d
      → IsSpotOf q tree (single_spot tree r ps (chosen ls ps) (Some n)) d

-- the stand of a spot at a distance
abbrev pub stand_of : Spot × ℕ → Stand
stand_of s = stand s.0.reference s.0.choice s.0.node s.1

abbrev pub SpotBefore : Tree → Spot × ℕ → Spot × ℕ → Type 0
SpotBefore tree s t = Before tree (stand_of s) (stand_of t)
