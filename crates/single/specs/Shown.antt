-- How a single request shows the attributes that a request holds. Assumes nothing.
use Rattle.std.specs.Prelude.{ℕ, Bool, cond, not, ◌&&◌, List, map, filter, ◌==◌}
use Rattle.std.specs.Option.{option_map}
use Rattle.model.specs.Content as content
use Rattle.wire.specs.declared.span.Span.{Span}
use Rattle.wire.specs.Span.{part}
use Rattle.wire.specs.Told.{spanned}
use Rattle.request.specs.declared.content.Attribute.{Attribute}
use Rattle.single.specs.declared.seen.Place.{Place}
use Rattle.single.specs.declared.seen.Place.TheVariants.{Part, Name}
use Rattle.single.specs.declared.seen.Seen.{Seen}

-- `node` says whether the attribute is one of a node's resource; id 1 is resource-id, id 2 scope
abbrev pub place_at : Bool → ℕ → Span → Place
place_at node i s = cond (node && i == 1) Name (Part s)

abbrev pub seen_at : Bool → Attribute → Seen
seen_at node a = record {
  included = a.included;
  id = a.id;
  data_type = a.data_type;
  issuer = a.issuer;
  value = place_at node a.id a.value;
}

abbrev pub hidden : Bool → Attribute → Bool
hidden node a = node && a.id == 2

abbrev pub shown : Bool → List Attribute → List Seen
shown node attributes = map (seen_at node) (filter (λ a. not (hidden node a)) attributes)

-- over the request's bytes and the node's name
abbrev pub value_at : List ℕ → List ℕ → Place → List ℕ
value_at bytes name (Part s) = part bytes s
value_at bytes name Name = name

abbrev pub attribute_seen : List ℕ → List ℕ → Seen → content.Attribute
attribute_seen bytes name s = record {
  included = s.included;
  id = s.id;
  type = s.data_type;
  issuer = option_map (spanned bytes) s.issuer;
  value = value_at bytes name s.value;
}
