-- A table of the lines in the order of their texts. Assumes nothing.
use Rattle.std.specs.Prelude.{◌≡◌, ℕ, ◌<◌, ◌≤◌, Bool, true, ◌&&◌, List, [], length, Ok, Err, Result, nat_le, slice_index, slice_index_or}
use Rattle.std.specs.declared.cmp.Ordering.TheVariants.{Less, Greater}
use Rattle.std.specs.declared.cmp.Ordering.{Ordering}
use Rattle.std.specs.Borrow.{Bor}
use Rattle.std.specs.Cmp.Lexicographic.{slice_cmp}
use Rattle.std.specs.Ordering.{is_lt, ordering_then, nat_cmp}
use Rattle.model.specs.Lists.{any}
use Rattle.model.specs.PointFiles.{Line, same_line}
use Rattle.grants.specs.declared.line.Line.{Line as HeldLine}
use Rattle.grants.specs.Held.{lines_at}

abbrev pub lines_behind : Bor (List ℕ) → List HeldLine → List Line
lines_behind bytes lines = lines_at bytes.now lines

-- bytes in the order of slices
abbrev pub by_bytes : List ℕ → List ℕ → Ordering
by_bytes s t = slice_cmp nat_cmp s t

-- by subject, then by action, then by resource
abbrev pub compared : Line → Line → Ordering
compared l m = ordering_then (by_bytes l.subject m.subject) (ordering_then (by_bytes l.action m.action) (by_bytes l.resource m.resource))

abbrev pub no_line : Line
no_line = record { subject = []; action = []; resource = [] }

-- the line at place i of the order
abbrev pub line_at : List Line → List ℕ → ℕ → Line
line_at lines order i = slice_index_or lines (slice_index order i) no_line

abbrev pub InsideOf : List Line → List ℕ → Type 0
InsideOf lines order = (i : ℕ) → i < length order → slice_index order i < length lines

abbrev pub Ascending : List Line → List ℕ → Type 0
Ascending lines order = (i j : ℕ) → (i < j) × (j < length order) → is_lt (compared (line_at lines order i) (line_at lines order j)) ≡ true

-- number k is line n, or an earlier line with the same texts
abbrev pub stands_for : List Line → ℕ → ℕ → Bool
stands_for lines n k = nat_le k n && same_line (slice_index_or lines k no_line) (slice_index_or lines n no_line)

abbrev pub Complete : List Line → List ℕ → Type 0
Complete lines order = (n : ℕ) → n < length lines → any (stands_for lines n) order ≡ true

-- the order holds the first line of each kind, by ascending texts
pub record Indexed (lines : List Line) (order : List ℕ) : Type 0 where
  pub inside : InsideOf lines order
  pub ascending : Ascending lines order
  pub complete : Complete lines order

-- the lines before place i are less than q, and those from it on are greater
pub record Parts (lines : List Line) (order : List ℕ) (q : Line) (i : ℕ) : Type 0 where
  pub high : i ≤ length order
  pub below : (k : ℕ) → k < i → compared (line_at lines order k) q ≡ Less
  pub above : (k : ℕ) → i ≤ k → k < length order → compared (line_at lines order k) q ≡ Greater

pub record Stands (lines : List Line) (order : List ℕ) (q : Line) (i : ℕ) : Type 0 where
  pub high : i < length order
  pub here : line_at lines order i ≡ q

abbrev pub Placed : List Line → List ℕ → Line → Result ℕ ℕ → Type 0
Placed lines order q (Ok i) = Stands lines order q i
Placed lines order q (Err i) = Parts lines order q i
