-- Worked cases of the rules, in one table. Assumes nothing.
use Rattle.std.specs.Prelude.{◌≡◌, ℕ, false, List, [], ◌∷◌, map, replicate, Some, None, Ok, Err, Option, Result}
use Rattle.model.specs.declared.decision.Decision.TheVariants.{NotApplicable}
use Rattle.model.specs.declared.decision.Status.TheVariants as status
use Rattle.model.specs.declared.call.CallRefusal.{CallRefusal}
use Rattle.model.specs.declared.call.CallRefusal.TheVariants.{Ended, RowsLeft, NoVerdict, TooShort, FaultRow}
use Rattle.model.specs.Numbers.{cause_number, call_refusal_number}
use Rattle.model.specs.Layout.{Refusal, layer}
use Rattle.model.specs.Content.{Request, read_request}
use Rattle.model.specs.Spelling.{spell_request}
use Rattle.model.specs.Tree.{Tree, Extent, children, descendants, reached}
use Rattle.model.specs.TreeFiles.{read_linked_tree, read_path_tree}
use Rattle.model.specs.Points.{answers, Point}
use Rattle.model.specs.Rows.{Basis, fault, single, single_bytes, Spot, spots}
use Rattle.model.specs.Law.{show, Reply, row, wrote, rewound, judged, refuses, reply}

-- what is seen of a row
pub data Seen : Type 0 where
  -- its choice, and the bytes of its single request
  decides : List ℕ → List ℕ → Seen
  -- its choice, if any, the number of its cause, and its place
  faults : Option (List ℕ) → ℕ → ℕ → Seen

pub data Case : Type 0 where
  -- bytes, and the number, layer and place of their refusal
  refused : List ℕ → ℕ → ℕ → ℕ → Case
  -- bytes that are accepted, and spelled again
  accepted : List ℕ → Case
  -- bytes, and the rows of their request where there is no node
  expanded : List ℕ → List Seen → Case
  -- bytes, how many rows have been handed out, the length of a buffer that is too short to show the next into, and the length needed
  too_short : List ℕ → ℕ → ℕ → ℕ → Case
  -- a tree, what is asked, of which node, and the nodes reached
  reaches : Result Tree Refusal → Extent → ℕ → List ℕ → Case

-- WHAT THE RULES SAY

abbrev pub refusal_of : Result Request Refusal → Option (ℕ × ℕ × ℕ)
refusal_of (Ok q) = None
refusal_of (Err e) = Some (e.number, layer e, e.place)

abbrev pub spelled_again : Result Request Refusal → Option (List ℕ)
spelled_again (Ok q) = Some (spell_request q)
spelled_again (Err e) = None

abbrev pub no_tree : Tree
no_tree = record { names = []; linked = λ _ _. false }

abbrev pub no_point : Point
no_point es = answers NotApplicable status.Ok 0

abbrev pub positions : Option (List ℕ) → List ℕ
positions (Some ps) = ps
positions None = []

abbrev pub seen_on : Option (List ℕ) → Basis → Seen
seen_on ps (fault cause place) = faults ps (cause_number cause) place
seen_on ps (single es) = decides (positions ps) (single_bytes es)

abbrev pub seen : Spot → Seen
seen s = seen_on s.choice s.basis

abbrev pub seen_of : Result Request Refusal → List Seen
seen_of (Ok q) = map seen (spots q no_tree)
seen_of (Err e) = []

-- the number of a refusal, and the length that it carries
abbrev pub carried_by : CallRefusal → Option (ℕ × ℕ)
carried_by Ended = None
carried_by RowsLeft = None
carried_by NoVerdict = None
carried_by (TooShort needed) = Some (call_refusal_number (TooShort needed), needed)
carried_by FaultRow = None

abbrev pub carried_in : Reply → Option (ℕ × ℕ)
carried_in (row r) = None
carried_in (wrote n b) = None
carried_in rewound = None
carried_in (judged d) = None
carried_in (refuses r) = carried_by r

abbrev pub refusal_to_show : Result Request Refusal → ℕ → ℕ → Option (ℕ × ℕ)
refusal_to_show (Ok q) k room = carried_in (reply q no_tree no_point (show (replicate room 0)) k)
refusal_to_show (Err e) k room = None

abbrev pub reached_in : Result Tree Refusal → Extent → ℕ → Option (List ℕ)
reached_in (Ok tree) x a = Some (reached tree x a)
reached_in (Err e) x a = None

-- THE TABLE

abbrev pub Holds : Case → Type 0
Holds (refused bytes number at_layer place) = refusal_of (read_request bytes) ≡ Some (number, at_layer, place)
Holds (accepted bytes) = spelled_again (read_request bytes) ≡ Some bytes
Holds (expanded bytes rows) = seen_of (read_request bytes) ≡ rows
Holds (too_short bytes k room needed) = refusal_to_show (read_request bytes) k room ≡ Some (34, needed)
Holds (reaches tree x a ns) = reached_in tree x a ≡ Some ns

abbrev pub EachHolds : List Case → Type 0
EachHolds [] = Unit {0}
EachHolds (c ∷ cs) = Holds c × EachHolds cs

-- two resources a and b and a subject s between them
abbrev pub two_resources : List ℕ
two_resources =
    0x00 ∷ 0x03 ∷ 0x02 ∷ 0x01 ∷ 0x01 ∷ 0x00 ∷ 0x01 ∷ 0x01 ∷ 0x61
    ∷ 0x02 ∷ 0x02 ∷ 0x01 ∷ 0x00 ∷ 0x03 ∷ 0x01 ∷ 0x73
    ∷ 0x02 ∷ 0x01 ∷ 0x01 ∷ 0x00 ∷ 0x01 ∷ 0x01 ∷ 0x62 ∷ []

-- the single requests of its two rows
abbrev pub first_of_two : List ℕ
first_of_two =
    0x00 ∷ 0x02 ∷ 0x02 ∷ 0x01 ∷ 0x01 ∷ 0x00 ∷ 0x01 ∷ 0x01 ∷ 0x61
    ∷ 0x02 ∷ 0x02 ∷ 0x01 ∷ 0x00 ∷ 0x03 ∷ 0x01 ∷ 0x73 ∷ []

abbrev pub second_of_two : List ℕ
second_of_two =
    0x00 ∷ 0x02 ∷ 0x02 ∷ 0x02 ∷ 0x01 ∷ 0x00 ∷ 0x03 ∷ 0x01 ∷ 0x73
    ∷ 0x02 ∷ 0x01 ∷ 0x01 ∷ 0x00 ∷ 0x01 ∷ 0x01 ∷ 0x62 ∷ []

-- one element, of tag 7, and two references: one names it twice, the other has an unknown tag
abbrev pub twice_and_unknown : List ℕ
twice_and_unknown = 0x02 ∷ 0x01 ∷ 0x01 ∷ 0x02 ∷ 0x07 ∷ 0x02 ∷ 0x02 ∷ 0x07 ∷ 0x07 ∷ 0x01 ∷ 0x08 ∷ []

-- the single request of each row of the first
abbrev pub one_subject : List ℕ
one_subject = 0x00 ∷ 0x01 ∷ 0x00 ∷ 0x02 ∷ []

-- nodes a, b, c and d, with links from a to d, from a to c and from d to b
abbrev pub four_nodes : List ℕ
four_nodes =
    0x00 ∷ 0x04 ∷ 0x01 ∷ 0x61 ∷ 0x01 ∷ 0x62 ∷ 0x01 ∷ 0x63 ∷ 0x01 ∷ 0x64
    ∷ 0x00 ∷ 0x03 ∷ 0x00 ∷ 0x00 ∷ 0x00 ∷ 0x03 ∷ 0x00 ∷ 0x00 ∷ 0x00 ∷ 0x02 ∷ 0x00 ∷ 0x03 ∷ 0x00 ∷ 0x01 ∷ []

-- nodes a and b, each linked to the other
abbrev pub circle : List ℕ
circle =
    0x00 ∷ 0x02 ∷ 0x01 ∷ 0x61 ∷ 0x01 ∷ 0x62
    ∷ 0x00 ∷ 0x02 ∷ 0x00 ∷ 0x00 ∷ 0x00 ∷ 0x01 ∷ 0x00 ∷ 0x01 ∷ 0x00 ∷ 0x00 ∷ []

-- paths n, n/p, n/p/m, np and n/q/m
abbrev pub five_paths : List ℕ
five_paths =
    0x00 ∷ 0x05 ∷ 0x01 ∷ 0x6E ∷ 0x03 ∷ 0x6E ∷ 0x2F ∷ 0x70 ∷ 0x05 ∷ 0x6E ∷ 0x2F ∷ 0x70 ∷ 0x2F ∷ 0x6D
    ∷ 0x02 ∷ 0x6E ∷ 0x70 ∷ 0x05 ∷ 0x6E ∷ 0x2F ∷ 0x71 ∷ 0x2F ∷ 0x6D ∷ []

abbrev pub table : List Case
table =
    refused [] 11 1 0
    ∷ refused (0x04 ∷ []) 12 1 0
    ∷ refused (0x00 ∷ 0x11 ∷ []) 13 1 1
    ∷ refused (0x00 ∷ 0x10 ∷ []) 11 2 2
    ∷ accepted (0x00 ∷ 0x01 ∷ 0x00 ∷ 0x01 ∷ [])
    ∷ expanded (0x00 ∷ 0x01 ∷ 0x00 ∷ 0x01 ∷ []) (decides (0 ∷ []) (0x00 ∷ 0x01 ∷ 0x00 ∷ 0x01 ∷ []) ∷ [])
    ∷ refused (0x00 ∷ 0x01 ∷ 0x00 ∷ 0x01 ∷ 0x00 ∷ []) 14 1 4
    ∷ refused (0x00 ∷ 0x02 ∷ 0x01 ∷ 0x02 ∷ 0x07 ∷ 0x01 ∷ 0x03 ∷ 0x07 ∷ []) 15 2 7
    ∷ accepted two_resources
    ∷ expanded two_resources (decides (0 ∷ 0 ∷ []) first_of_two ∷ decides (1 ∷ 0 ∷ []) second_of_two ∷ [])
    ∷ too_short two_resources 1 15 16
    ∷ expanded twice_and_unknown (decides (0 ∷ []) one_subject ∷ decides (1 ∷ []) one_subject ∷ faults None 41 0 ∷ [])
    ∷ reaches (read_linked_tree four_nodes) descendants 0 (0 ∷ 2 ∷ 3 ∷ 1 ∷ [])
    ∷ reaches (read_linked_tree four_nodes) children 0 (0 ∷ 2 ∷ 3 ∷ [])
    ∷ reaches (read_linked_tree circle) descendants 0 (0 ∷ 1 ∷ [])
    ∷ reaches (read_path_tree five_paths) descendants 0 (0 ∷ 1 ∷ 2 ∷ [])
    ∷ []

abbrev pub AllHold : Type 0
AllHold = EachHolds table
