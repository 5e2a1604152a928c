-- One call more: the rows handed out are still the first of the request's rows. Assumes nothing.
use Rattle.std.proofs.Common.{◌≡◌, ℕ, ◌<◌, ◌≤◌, List, length, take, refl, ⊎_elim, add-one, arith}
use Rattle.std.proofs.lemmas.Bool.{cases_lt, lt-ltb, le-ltb}
use Rattle.model.specs.Content.{Request}
use Rattle.model.specs.Tree.{Tree}
use Rattle.model.specs.Points.{Point}
use Rattle.model.specs.Rows.{Row, rows}
use Rattle.model.specs.Law.{Call, reply, after}
use Rattle.model.specs.Conversation.{kept}
use Rattle.model.proofs.Positions.{nth_below, nth_past}

module _ (q : Request) (tree : Tree) (point : Point) where
  pub after_le : (c : Call) (k : ℕ) → k ≤ length (rows q tree point) → after q tree point c k ≤ length (rows q tree point)
  after_le Call.step k h =
      ⊎_elim (λ l. rw (lt-ltb k (length (rows q tree point)) l) (omega arith)) (λ l. rw (le-ltb k (length (rows q tree point)) l) h)
      (cases_lt k (length (rows q tree point)))
  after_le (Call.show b) k h = h
  after_le Call.rewind k h = omega arith
  after_le Call.verdict k h = h

  pub kept_is : (c : Call) (k : ℕ) (rs : List Row) → rs ≡ take k (rows q tree point)
      → kept c (reply q tree point c k) rs ≡ take (after q tree point c k) (rows q tree point)
  kept_is Call.step k rs e = ⊎_elim within past (cases_lt k (length (rows q tree point)))
    where
      within : k < length (rows q tree point)
          → kept Call.step (reply q tree point Call.step k) rs ≡ take (after q tree point Call.step k) (rows q tree point)
      within l = let r = nth_below (rows q tree point) k l in rw (lt-ltb k (length (rows q tree point)) l, r.1, add-one k, r.2, e)

      past : length (rows q tree point) ≤ k
          → kept Call.step (reply q tree point Call.step k) rs ≡ take (after q tree point Call.step k) (rows q tree point)
      past l = rw (le-ltb k (length (rows q tree point)) l, nth_past (rows q tree point) k l) e
  kept_is (Call.show b) k rs e = e
  kept_is Call.rewind k rs e = refl
  kept_is Call.verdict k rs e = e
