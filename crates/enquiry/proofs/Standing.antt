-- How an enquiry stands after each call, and what the call then has answered. Assumes nothing.
use Rattle.std.proofs.Common.{◌≡◌, ℕ, ◌+◌, ◌≤◌, Bool, true, false, cond, ◌&&◌, List, ◌++◌, length, take, drop, Some, None, Ok, Err, Option, Result, sym, refl, ap, ◌∙◌, subst, add-one, arith}
use Rattle.std.proofs.lemmas.List.{length-append, length-drop}
use Rattle.std.proofs.lemmas.Bool.{lt-ltb, le-ltb}
use Rattle.model.specs.declared.call.CallRefusal.{CallRefusal}
use Rattle.model.specs.declared.call.CallRefusal.TheVariants as refusal
use Rattle.model.specs.declared.decision.Cause.{Cause}
use Rattle.model.specs.declared.decision.Decision.TheVariants.{Permit, Deny}
use Rattle.model.specs.Content.{Element, Request}
use Rattle.model.specs.Lists.{nth}
use Rattle.model.specs.Tree.{Tree, Limits}
use Rattle.model.specs.Points.{Point}
use Rattle.model.specs.Rows.{fault, single, Spot, spots, row_at_spot, rows}
use Rattle.model.specs.Law as law
use Rattle.model.specs.Law.{is_permitting, all_permit, verdict_over, write_reply, basis_reply, show_reply, verdict_reply, is_left, reply}
use Rattle.single.specs.declared.short.TooShort.{TooShort}
use Rattle.single.specs.Written.{bytes_for, Writes}
use Rattle.cursor.specs.Ahead.{next_of, later, ahead, Over, Before}
use Rattle.enquiry.specs.declared.enquiry.Enquiry.{Enquiry}
use Rattle.enquiry.specs.declared.row.Row.{Row as ToldRow}
use Rattle.enquiry.specs.Rows.{row_of}
use Rattle.enquiry.specs.Calls.{content, Source, Standing, Starts, Answers, step_told, show_told}
use Rattle.enquiry.proofs.Sources.{Spelled, spelled}
use Rattle.enquiry.proofs.Moves.{next_drop, later_drop, none_left, no_row, all_given, within, one_left, a_row, permitted_on}

-- a refusal of a write, as a refusal of a call
abbrev pub told_write : Result ℕ TooShort → Result ℕ CallRefusal
told_write (Ok n) = Ok n
told_write (Err short) = Err (refusal.TooShort short.needed)

-- BEFORE THE FIRST ROW

pub starts : (tree : Tree) (e : Enquiry) → Source (content e) → Before tree (content e) (spots (content e) tree) e.cursor → e.handed ≡ 0
    → e.permitted ≡ true → Starts tree e
starts tree e source before none all = record {
  none_handed = none;
  standing = λ point. record {
    source = source;
    over = before.over;
    within = omega (arith, none);
    ahead = before.ahead ∙ ap (λ k. drop k (spots (content e) tree)) (sym none);
    permitted = all ∙ ap (λ k. all_permit (take k (rows (content e) tree point))) (sym none);
  };
}

module _ (tree : Tree) (point : Point) (e : Enquiry) (standing : Standing tree point e) where
  abbrev q : Request
  q = content e

  abbrev k : ℕ
  k = e.handed

  -- the spot that the cursor tells is that of the next row
  pub next_is : (o : Option Spot) → o ≡ next_of (ahead tree q e.cursor) → nth (spots q tree) k ≡ o
  next_is o h = sym (h ∙ ap next_of standing.ahead ∙ next_drop (spots q tree) k)

  -- STEP

  pub step_ended : nth (spots q tree) k ≡ None → Answers tree point e law.step (law.refuses refusal.Ended) e
  step_ended at = record {
    answer = sym (no_row q tree point k at);
    handed = ap (λ b. cond b (k + 1) k) (sym (none_left q tree point k at));
    content = refl;
    standing = standing;
  }

  pub step_on : (s : Spot) (row : ToldRow) (e' : Enquiry) → nth (spots q tree) k ≡ Some s → row_of row ≡ row_at_spot point s → content e' ≡ q
      → Before tree q (later (ahead tree q e.cursor)) e'.cursor → e'.handed ≡ k + 1 → e'.permitted ≡ (e.permitted && is_permitting row.decision)
      → Answers tree point e law.step (step_told (Ok row)) e'
  step_on s row e' at is same before one_more notes = record {
    answer = ap law.row is ∙ sym (a_row q tree point k s at);
    handed = one_more ∙ ap (λ b. cond b (k + 1) k) (sym (one_left q tree point k s at));
    content = same;
    standing = record {
      source = subst Source (sym same) standing.source;
      over = subst (λ p. Over tree p e'.cursor) (sym same) before.over;
      within = omega (arith, within q tree point k s at, one_more, ap (λ p. length (spots p tree)) same);
      ahead =
          ap (λ p. ahead tree p e'.cursor) same
          ∙ before.ahead
          ∙ ap later standing.ahead
          ∙ later_drop (spots q tree) k
          ∙ ap (λ n. drop n (spots q tree)) (sym (one_more ∙ add-one k))
          ∙ ap (λ p. drop e'.handed (spots p tree)) (sym same);
      permitted =
          notes
          ∙ permitted_on q tree point k s at e.permitted (is_permitting row.decision) standing.permitted (ap (λ r. is_permitting r.decision) is)
          ∙ ap (λ n. all_permit (take n (rows q tree point))) (sym (one_more ∙ add-one k))
          ∙ ap (λ p. all_permit (take e'.handed (rows p tree point))) (sym same);
    };
  }

  -- WHAT MOVES NOTHING

  stays : (call : law.Call) (a : law.Reply) → a ≡ reply q tree point call k → k ≡ law.after q tree point call k → Answers tree point e call a e
  stays call a answer handed = record { answer = answer; handed = handed; content = refl; standing = standing }

  module _ (buffer : List ℕ) where
    pub show_ended : nth (spots q tree) k ≡ None → Answers tree point e (law.show buffer) (law.refuses refusal.Ended) e
    show_ended at = stays (law.show buffer) _ (ap (show_reply buffer) (sym at)) refl

    pub show_fault : (s : Spot) (c : Cause) (p : ℕ) → nth (spots q tree) k ≡ Some s → s.basis ≡ fault c p
        → Answers tree point e (law.show buffer) (law.refuses refusal.FaultRow) e
    show_fault s c p at is = stays (law.show buffer) _ (ap (basis_reply buffer) (sym is) ∙ ap (show_reply buffer) (sym at)) refl

    told : (bytes : List ℕ) (r : Result ℕ TooShort) (after : List ℕ) → length after ≡ length buffer → Writes bytes buffer r after
        → show_told (told_write r) after ≡ write_reply buffer bytes
    told bytes (Ok n) after long w =
        let room : length bytes ≤ length buffer =
        omega (arith, long, ap length w.1, length-append bytes (drop (length bytes) buffer), length-drop (length bytes) buffer) in
        (λ i. law.wrote (w.0 i) (w.1 i))
        ∙ ap (λ b. cond b (law.refuses (refusal.TooShort (length bytes))) (law.wrote (length bytes) (bytes ++ drop (length bytes) buffer)))
        (sym (le-ltb (length buffer) (length bytes) room))
    told bytes (Err short) after long w =
        ap (λ n. law.refuses (refusal.TooShort n)) w.1
        ∙ ap (λ b. cond b (law.refuses (refusal.TooShort (length bytes))) (law.wrote (length bytes) (bytes ++ drop (length bytes) buffer)))
        (sym (lt-ltb (length buffer) (length bytes) w.0))

    pub show_on : (limits : Limits tree) (s : Spot) (es : List Element) (r : Result ℕ TooShort) (after : List ℕ) → nth (spots q tree) k ≡ Some s
        → s.basis ≡ single es → length after ≡ length buffer → Writes (bytes_for es) buffer r after
        → Answers tree point e (law.show buffer) (show_told (told_write r) after) e
    show_on limits s es r after at is long w =
        stays (law.show buffer) _ (
        told (bytes_for es) r after long w
        ∙ ap (write_reply buffer) (subst Spelled is (spelled q tree point limits k s at standing.source))
        ∙ ap (basis_reply buffer) (sym is)
        ∙ ap (show_reply buffer) (sym at)
        ) refl

  -- VERDICT

  pub unasked : q.combined ≡ false → Answers tree point e law.verdict (law.refuses refusal.NoVerdict) e
  unasked no_byte = stays law.verdict _ (ap (λ b. verdict_reply b (is_left q tree point k) (verdict_over (rows q tree point))) (sym no_byte)) refl

  pub rows_left : (s : Spot) → q.combined ≡ true → nth (spots q tree) k ≡ Some s → Answers tree point e law.verdict (law.refuses refusal.RowsLeft) e
  rows_left s asked at =
      stays law.verdict _ (sym (λ i. verdict_reply (asked i) (one_left q tree point k s at i) (verdict_over (rows q tree point)))) refl

  pub judges : (b : Bool) → e.permitted ≡ b → q.combined ≡ true → nth (spots q tree) k ≡ None
      → Answers tree point e law.verdict (law.judged (cond b Permit Deny)) e
  judges b is asked at =
      stays law.verdict _ (
      ap (λ c. law.judged (cond c Permit Deny)) (sym is ∙ standing.permitted ∙ ap all_permit (all_given q tree point k at))
      ∙ sym (λ i. verdict_reply (asked i) (none_left q tree point k at i) (verdict_over (rows q tree point)))
      ) refl
