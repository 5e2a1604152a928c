-- What a resource element asks for, over the attributes as a request holds them. Assumes nothing.
use Rattle.std.specs.Prelude.{ℕ, Bool, cond, not, List, Some, None, Ok, Err, codes, Option, Result, ◌==◌}
use Rattle.model.specs.declared.decision.Cause.{Cause}
use Rattle.model.specs.declared.decision.Cause.TheVariants.{SeveralScopes, BadScope, NoSingleResourceId}
use Rattle.model.specs.Rows.{Scope, faulty, itself, below, asked_at}
use Rattle.model.specs.Tree.{Tree, Extent, children, descendants, node_named}
use Rattle.model.specs.Values.{same}
use Rattle.wire.specs.Span.{part}
use Rattle.tree.specs.Reached.{extent_of}
use Rattle.request.specs.declared.content.Attribute.{Attribute}
use Rattle.single.specs.declared.only.Only.{Only}
use Rattle.single.specs.declared.only.Only.TheVariants.{Missing, One, Several}
use Rattle.expansion.specs.declared.asked.Exploration.{Exploration}

abbrev pub scope_of : Result (Option Exploration) Cause → Scope
scope_of (Err cause) = faulty cause
scope_of (Ok None) = itself
scope_of (Ok (Some e)) = below (extent_of e.extent) e.node

abbrev pub with_code : ℕ → Attribute → Bool
with_code i a = a.id == i

-- from the node that the one resource-id names
abbrev pub asked_only : Tree → List ℕ → Extent → Only Attribute → Scope
asked_only tree bytes x Missing = faulty NoSingleResourceId
asked_only tree bytes x (One a) = asked_at x (node_named tree (part bytes a.value))
asked_only tree bytes x Several = faulty NoSingleResourceId

-- by the one scope
abbrev pub asked_by : Tree → List ℕ → Only Attribute → Attribute → Scope
asked_by tree bytes ids s =
    cond (not (s.data_type == 1)) (faulty BadScope)
    (cond (same (part bytes s.value) (codes "Immediate")) itself
    (cond (same (part bytes s.value) (codes "Children")) (asked_only tree bytes children ids)
    (cond (same (part bytes s.value) (codes "Descendants")) (asked_only tree bytes descendants ids) (faulty BadScope))))

abbrev pub scope_only : Tree → List ℕ → Only Attribute → Only Attribute → Scope
scope_only tree bytes ids Missing = itself
scope_only tree bytes ids (One s) = asked_by tree bytes ids s
scope_only tree bytes ids Several = faulty SeveralScopes
