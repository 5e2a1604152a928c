-- A caller's side of the law: some run of calls led here. Assumes nothing.
use Rattle.std.proofs.Common.{◌≡◌, ℕ, ◌<◌, List, [], ◌∷◌, ◌++◌, length, Ok, Err, Result, refl, ap, subst}
use Rattle.model.specs.declared.call.CallRefusal.{CallRefusal}
use Rattle.model.specs.Content.{Request}
use Rattle.model.specs.Layout.{Refusal}
use Rattle.model.specs.Points.{Point}
use Rattle.model.specs.Rows.{Row}
use Rattle.model.specs.Total.{total}
use Rattle.model.specs.Tree.{Tree}
use Rattle.model.specs.Law.{step, row, refuses}
use Rattle.model.specs.Conversation.{Exchange, handed_out, Ended, Told}
use Rattle.enquiry.specs.declared.enquiry.Enquiry.{Enquiry}
use Rattle.enquiry.specs.Calls.{Works}
use Rattle.enquiry.specs.Runs.{Run, start, by_call, Law}
use Rattle.conformance.specs.Collected.{Complete}

-- how many rows bytes that read so have
abbrev pub rows_due : Tree → Result Request Refusal → ℕ
rows_due tree (Ok q) = total q tree
rows_due tree (Err e) = 0

module _ (q : Request) (tree : Tree) (point : Point) (given : List Row) where
  one_left : (r : Row) → Told q tree point given step (row r) → length given < total q tree
  one_left r (Told.a_row next) = next.left

  none_left : (c : CallRefusal) → Told q tree point given step (refuses c) → Ended q tree point given
  none_left c (Told.no_row ended) = ended

module _ (tree : Tree) (point : Point) (reading : Result Request Refusal) where
  -- these rows were handed out by a run of calls that led to e, from an enquiry that keeps the law
  pub record Since (out : List Row) (e : Enquiry) : Type 0 where
    pub request : Request
    pub reads : Ok request ≡ reading
    pub from : Enquiry
    pub law : Law tree request from
    pub past : List Exchange
    pub run : Run tree point from past e
    pub rows : handed_out past ≡ out

  pub opened : (q : Request) (e : Enquiry) → Ok q ≡ reading → Law tree q e → Since [] e
  opened q e reads law = record { request = q; reads = reads; from = e; law = law; past = []; run = start; rows = refl }

  pub one_more : (out : List Row) (e e' : Enquiry) (r : Row) → Since out e → Works tree point e step (row r) e' → Since (out ++ r ∷ []) e'
  one_more out e e' r s w = record {
    request = s.request;
    reads = s.reads;
    from = s.from;
    law = s.law;
    past = record { call = step; answer = row r } ∷ s.past;
    run = by_call s.run w;
    rows = ap (λ l. l ++ r ∷ []) s.rows;
  }

  -- a row that is handed out was left
  pub fewer : (out : List Row) (e e' : Enquiry) (r : Row) → Since out e → Works tree point e step (row r) e' → length out < rows_due tree reading
  fewer out e e' r s w =
      let told = (s.law point (record { call = step; answer = row r } ∷ s.past) e' (by_call s.run w)).1 in
      let left = one_left s.request tree point (handed_out s.past) r told in
      subst (λ l. length l < rows_due tree reading) s.rows (subst (λ o. length (handed_out s.past) < rows_due tree o) s.reads left)

  pub done : (out : List Row) (e e' : Enquiry) (c : CallRefusal) → Since out e → Works tree point e step (refuses c) e' → Complete tree point reading out
  done out e e' c s w =
      let told = (s.law point (record { call = step; answer = refuses c } ∷ s.past) e' (by_call s.run w)).1 in
      let ended = none_left s.request tree point (handed_out s.past) c told in
      subst (λ o. Complete tree point o out) s.reads (subst (Ended s.request tree point) s.rows ended)
