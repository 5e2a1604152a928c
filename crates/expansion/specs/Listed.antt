-- What listed numbers mean over the elements of a request. Assumes nothing.
use Rattle.std.specs.Prelude.{ℕ, ◌≤◌, Bool, List, map, length, Some, None, Ok, Err, Option, Result}
use Rattle.model.specs.Content.{Element, is_tag}
use Rattle.model.specs.Rows.{Listed, Listing, lists, unknown}
use Rattle.request.specs.declared.content.Element.{Element as HeldElement}
use Rattle.single.specs.Numbers.{past, numbered}
use Rattle.expansion.specs.declared.few.Few.{Few}
use Rattle.expansion.specs.declared.listing.UnknownTag.{UnknownTag}
use Rattle.expansion.specs.Few.{held}

-- the element of a number; a blank one past the last
abbrev pub listed_at : List Element → ℕ → Listed
listed_at es k = record { number = k; element = numbered es k }

abbrev pub listed_of : List Element → List ℕ → List Listed
listed_of es ks = map (listed_at es) ks

abbrev pub listing_of : List Element → Result Few UnknownTag → Listing
listing_of es (Ok f) = lists (listed_of es (held f))
listing_of es (Err u) = unknown u.position

-- each number names an element
abbrev pub Names : List Element → Result Few UnknownTag → Type 0
Names es (Ok f) = past (held f) ≤ length es
Names es (Err u) = Unit {0}

abbrev pub EachNames : List Element → Option (Result Few UnknownTag) → Type 0
EachNames es None = Unit {0}
EachNames es (Some r) = Names es r

abbrev pub with_tag : ℕ → HeldElement → Bool
with_tag t e = is_tag t e.tag
