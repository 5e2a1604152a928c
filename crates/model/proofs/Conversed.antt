-- Every conversation holds. Assumes nothing.
-- After any calls, what was handed out is the first k computed rows (Runs); these are the request's first rows by the relations, and the computed one at k
-- is the next (Ordered); so each computed reply is one that may be told, where a shown single request has one row again (Fits, Again).
use Rattle.std.proofs.Common.{◌≡◌, ℕ, ◌<◌, ◌≤◌, Bool, true, false, cond, ltb, List, [], ◌∷◌, ◌++◌, length, take, drop, Some, Option, sym, refl, ap, ◌∙◌, subst, ⊎_elim, arith}
use Rattle.std.proofs.lemmas.List.{take_all}
use Rattle.std.proofs.lemmas.Bool.{cases_lt, ltb-true, ltb-false}
use Rattle.model.specs.declared.call.CallRefusal.TheVariants.{TooShort}
use Rattle.model.specs.Content.{Request}
use Rattle.model.specs.Spelling.{RequestFits}
use Rattle.model.specs.Lists.{nth}
use Rattle.model.specs.Tree.{Tree, Limits}
use Rattle.model.specs.Points.{Point}
use Rattle.model.specs.Rows.{listings, single_bytes, Basis, Spot, spots, Row, row_at_spot, rows, fault, single}
use Rattle.model.specs.Meaning.{FirstRows}
use Rattle.model.specs.Law.{Call, Reply, verdict_over, step_reply, basis_reply, show_reply, verdict_reply, is_left, reply}
use Rattle.model.specs.Conversation.{handed_out, Verdict, Ended, Next, Told, Holds, rows_out, conversation, EveryConversationHolds}
use Rattle.model.proofs.Positions.{Cut, cut, nth_past, nth_map}
use Rattle.model.proofs.SpotOf.{SpotBefore}
use Rattle.model.proofs.Spots.{all_with, sorted_all, sound_all, rows_with}
use Rattle.model.proofs.Single.{request_fits}
use Rattle.model.proofs.Fits.{ProperBasis, proper_spot}
use Rattle.model.proofs.Runs.{after_le, kept_is}
use Rattle.model.proofs.Ordered.{first_rows, spots_listed, same_lengths, spots_lengths, ended, left_over, next}
use Rattle.model.proofs.Again.{opens_to_one}
use Rattle.model.proofs.Verdicts.{verdict_of}

module _ (q : Request) (tree : Tree) (point : Point) (limits : Limits tree) (fits : RequestFits q) where
  abbrev all : List (Spot × ℕ)
  all = all_with tree 0 (listings q)

  abbrev given : ℕ → List Row
  given k = take k (rows q tree point)

  -- what may be told where k rows have been handed out
  abbrev Tells : ℕ → Call → Reply → Type 0
  Tells k c r = Told q tree point (given k) c r

  rows_as_many : length (rows q tree point) ≡ length all
  rows_as_many = same_lengths q tree point limits fits.tags

  -- THE NEXT ROW

  the_cut : (k : ℕ) → k < length all → Cut (SpotBefore tree) all k
  the_cut k l = cut (SpotBefore tree) all k l (sorted_all tree 0 (listings q))

  nth_row : (k : ℕ) (c : Cut (SpotBefore tree) all k) → nth (rows q tree point) k ≡ Some (row_at_spot point c.it.0)
  nth_row k c = ap (λ (rs : List Row). nth rs k) (rows_with q tree point) ∙ nth_map (λ (s : Spot × ℕ). row_at_spot point s.0) all k c.it c.stands

  nth_spot : (k : ℕ) (c : Cut (SpotBefore tree) all k) → nth (spots q tree) k ≡ Some c.it.0
  nth_spot k c =
      ap (λ (ss : List Spot). nth ss k) (spots_listed q tree point limits fits.tags)
      ∙ nth_map (λ (s : Spot × ℕ). s.0) all k c.it c.stands

  the_next : (k : ℕ) → k < length all → (c : Cut (SpotBefore tree) all k) → Next q tree point (given k) (row_at_spot point c.it.0) c.it.0.basis
  the_next k l c = next q tree point limits fits.tags k l c

  at_end : (k : ℕ) → k ≤ length all → length all ≤ k → Ended q tree point (given k)
  at_end k h l = ended q tree point limits fits.tags k h l

  -- WHAT EACH CALL TELLS

  tells_step : (k : ℕ) → k ≤ length all → Tells k Call.step (reply q tree point Call.step k)
  tells_step k h = ⊎_elim
      (λ l. let c = the_cut k l in subst (λ (o : Option Row). Tells k Call.step (step_reply o)) (sym (nth_row k c)) (Told.a_row (the_next k l c)))
      (λ l.
      let past = nth_past (rows q tree point) k (omega (arith, rows_as_many)) in
      subst (λ (o : Option Row). Tells k Call.step (step_reply o)) (sym past) (Told.no_row (at_end k h l)))
      (cases_lt k (length all))

  tells_basis : (k : ℕ) (buffer : List ℕ) (s : Spot) (b : Basis) → s.basis ≡ b → ProperBasis tree b
      → Next q tree point (given k) (row_at_spot point s) b → Tells k (Call.show buffer) (basis_reply buffer b)
  tells_basis k buffer s (fault c p) e f n = Told.fault_to_show n
  tells_basis k buffer s (single es) e f n = on (ltb (length buffer) (length (single_bytes es))) refl
    where
      m : ℕ
      m = length (single_bytes es)

      on : (b : Bool) → ltb (length buffer) m ≡ b
          → Tells k (Call.show buffer) (cond b (Reply.refuses (TooShort m)) (Reply.wrote m (single_bytes es ++ drop m buffer)))
      on true h = Told.too_little_room n (ltb-true (length buffer) m h)
      on false h = Told.written n (ltb-false (length buffer) m h) (opens_to_one tree point limits q s es e f)

  tells_show : (k : ℕ) (buffer : List ℕ) → k ≤ length all → Tells k (Call.show buffer) (reply q tree point (Call.show buffer) k)
  tells_show k buffer h = ⊎_elim
      (λ l.
      let c = the_cut k l in
      let s = c.it.0 in
      let proper = proper_spot q tree limits fits s c.it.1 (sound_all q tree limits c.it c.among) in
      subst (λ (o : Option Spot). Tells k (Call.show buffer) (show_reply buffer o)) (sym (nth_spot k c))
      (tells_basis k buffer s s.basis refl proper (the_next k l c)))
      (λ l.
      let past = nth_past (spots q tree) k (omega (arith, spots_lengths q tree point limits fits.tags)) in
      subst (λ (o : Option Spot). Tells k (Call.show buffer) (show_reply buffer o)) (sym past) (Told.nothing_to_show (at_end k h l)))
      (cases_lt k (length all))

  tells_verdict : (k : ℕ) → k ≤ length all → (asked left : Bool) → q.combined ≡ asked → is_left q tree point k ≡ left
      → Tells k Call.verdict (verdict_reply asked left (verdict_over (rows q tree point)))
  tells_verdict k h false left e f = Told.no_verdict_asked e
  tells_verdict k h true true e f =
      let l = ltb-true k (length (rows q tree point)) f in
      Told.rows_left e (left_over q tree point limits fits.tags k (omega (arith, rows_as_many)))
  tells_verdict k h true false e f =
      let l = ltb-false k (length (rows q tree point)) f in
      let whole : given k ≡ rows q tree point = take_all k (rows q tree point) (omega arith) in
      Told.a_verdict e (at_end k h (omega (arith, rows_as_many)))
      (subst (λ (rs : List Row). Verdict rs (verdict_over (rows q tree point))) (sym whole) (verdict_of (rows q tree point)))

  tells : (c : Call) (k : ℕ) → k ≤ length all → Tells k c (reply q tree point c k)
  tells Call.step k h = tells_step k h
  tells (Call.show buffer) k h = tells_show k buffer h
  tells Call.rewind k h = Told.back_to_the_start
  tells Call.verdict k h = tells_verdict k h q.combined (is_left q tree point k) refl refl

  -- THE CONVERSATION

  out_le : (calls : List Call) → rows_out q tree point calls ≤ length all
  out_le [] = omega arith
  out_le (c ∷ cs) = let r = out_le cs in omega (arith, rows_as_many, after_le q tree point c (rows_out q tree point cs) (omega (arith, rows_as_many)))

  out_is : (calls : List Call) → handed_out (conversation q tree point calls) ≡ given (rows_out q tree point calls)
  out_is [] = refl
  out_is (c ∷ cs) = kept_is q tree point c (rows_out q tree point cs) (handed_out (conversation q tree point cs)) (out_is cs)

  holds : (calls : List Call) → Holds q tree point (conversation q tree point calls)
  holds [] = first_rows q tree point limits fits.tags 0
  holds (c ∷ cs) =
      let k = rows_out q tree point cs in (
        subst (FirstRows q tree point) (sym (out_is (c ∷ cs))) (first_rows q tree point limits fits.tags (rows_out q tree point (c ∷ cs))),
        subst (λ (rs : List Row). Told q tree point rs c (reply q tree point c k)) (sym (out_is cs)) (tells c k (out_le cs)),
        holds cs,
      )

pub every_conversation_holds : EveryConversationHolds
every_conversation_holds bytes q tree point e limits calls = holds q tree point limits (request_fits bytes q e) calls
