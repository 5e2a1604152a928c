-- The rows handed out are the first of the request's, and which row comes next. Assumes nothing.
-- The computed spots, each with its distance, stand in order and are all of the request's (Spots), and their rows are the related ones (Meant).
use Rattle.std.proofs.Common.{◌≡◌, ℕ, ◌<◌, ◌≤◌, ◌⊎◌, List, map, length, take, sym, refl, ap, ◌∙◌, subst, inl, inr, ⊎_elim, arith}
use mathlib.Core.List.Memᴰ
use mathlib.Core.List.{Memᴰ}
use lib.ListN.{length-map}
use Rattle.std.proofs.lemmas.List.{take-map, take_all, length-take-le}
use Rattle.model.specs.Order.{Sorted}
use Rattle.model.specs.Content.{Request}
use Rattle.model.specs.Spelling.{OtherTag}
use Rattle.model.specs.Lists.{Pairwise}
use Rattle.model.specs.Tree.{Tree, Limits}
use Rattle.model.specs.Points.{Point}
use Rattle.model.specs.Rows.{listings, Basis, Spot, spots, Row, row_at_spot, rows}
use Rattle.model.specs.Meaning.{Stand, RowOf, Before, FirstRows, AllRows}
use Rattle.model.specs.Agreement.{RowsAgree}
use Rattle.model.specs.Total.{total}
use Rattle.model.specs.Conversation.{Ended, Left, Next}
use Rattle.model.proofs.Members.{mem_take, sorted_take, taken_or_after, sorted_map}
use Rattle.model.proofs.Positions.{pairwise_maps, sorted_weaker, Cut, some_same, not_less}
use Rattle.model.proofs.SpotOf.{stand_of, SpotBefore}
use Rattle.model.proofs.Spots.{all_with, all_spots, sorted_all, sound_all, complete_all, rows_with}
use Rattle.model.proofs.Single.{request_fits}
use Rattle.model.proofs.Stands.{same_distance}
use Rattle.model.proofs.Meant.{row_of_spot, spot_of_row}
use Rattle.model.proofs.Totals.{rows_length}

module _ (q : Request) (tree : Tree) (point : Point) (limits : Limits tree) (apart : Sorted OtherTag q.elements) where
  -- the spots in order, each with its distance
  abbrev pub listed : List (Spot × ℕ)
  listed = all_with tree 0 (listings q)

  abbrev pub row_at : Spot × ℕ → Row
  row_at s = row_at_spot point s.0

  abbrev row_with : Spot × ℕ → Row × Stand
  row_with s = (row_at_spot point s.0, stand_of s)

  taken_rows : (k : ℕ) → take k (rows q tree point) ≡ map row_at (take k listed)
  taken_rows k = ap (take k) (rows_with q tree point) ∙ take-map row_at k listed

  -- each row that the relations say is the row of a listed spot
  record IsListed (row : Row) (st : Stand) : Type 0 where
    pub it : Spot × ℕ
    pub among : Memᴰ it listed
    pub same_row : row ≡ row_at it
    pub same_stand : stand_of it ≡ st

  is_listed : (row : Row) (st : Stand) (b : Basis) → RowOf q tree point row st b → IsListed row st
  is_listed row st b h =
      let x = spot_of_row point q tree limits apart row st b h in
      record {
        it = (x.0.spot, x.0.distance);
        among = complete_all q tree limits x.0.spot x.0.distance x.0.is_spot;
        same_row = x.1;
        same_stand = x.0.same_stand;
      }

  row_is : (s : Spot × ℕ) → Memᴰ s listed → RowOf q tree point (row_at s) (stand_of s) s.0.basis
  row_is s m = row_of_spot point q tree limits apart s.0 s.1 (sound_all q tree limits s m)

  -- a row that comes before another is another row
  pub row_once : (s t : Spot × ℕ) → Memᴰ s listed → Memᴰ t listed → SpotBefore tree s t → row_at s ≡ row_at t → ⊥
  row_once s t m n b e = step b
    where
      a : s.0.reference ≡ t.0.reference
      a = ap (λ (r : Row). r.reference) e

      c : s.0.choice ≡ t.0.choice
      c = ap (λ (r : Row). r.choice) e

      d : s.0.node ≡ t.0.node
      d = ap (λ (r : Row). r.node) e

      step : SpotBefore tree s t → ⊥
      step (Before.by_reference l) = omega (arith, a)
      step (Before.by_choice {ps} {qs} _ x y l) = not_less ps qs l (some_same t.0.choice ps qs (sym c ∙ x) y)
      step (Before.by_distance _ _ l) =
          let x = sound_all q tree limits s m in
          let y = sound_all q tree limits t n in
          omega (arith, same_distance q tree limits apart s.0 t.0 s.1 t.1 x y a c d)
      step (Before.by_node {m} {n} _ _ _ x y l) = omega (arith, some_same t.0.node m n (sym d ∙ x) y)

  sorted_taken : (k : ℕ) → Sorted (SpotBefore tree) (take k listed)
  sorted_taken k = sorted_take (SpotBefore tree) k listed (sorted_all tree 0 (listings q))

  distinct_rows : (k : ℕ) → Sorted (λ (r s : Row). r ≡ s → ⊥) (take k (rows q tree point))
  distinct_rows k =
      let differ : Spot × ℕ → Spot × ℕ → Type 0 = λ x y. row_at x ≡ row_at y → ⊥ in
      subst (Sorted (λ (r s : Row). r ≡ s → ⊥)) (sym (taken_rows k))
      (sorted_map row_at differ (λ (r s : Row). r ≡ s → ⊥) (λ x y n. n) (take k listed)
      (sorted_weaker (SpotBefore tree) differ (take k listed) (λ x y m n b. row_once x y (mem_take k listed x m) (mem_take k listed y n) b)
      (sorted_taken k)))

  -- THE FIRST k ROWS, AND ALL

  pub first_rows : (k : ℕ) → FirstRows q tree point (take k (rows q tree point))
  first_rows k = record {
    standing = map row_with (take k listed);
    these =
        subst (λ (rs : List Row). Pairwise (λ (r : Row) (s : Row × Stand). r ≡ s.0) rs (map row_with (take k listed))) (sym (taken_rows k))
        (pairwise_maps (λ (r : Row) (s : Row × Stand). r ≡ s.0) row_at row_with (take k listed) (λ x m. refl));
    in_order =
        sorted_map row_with (SpotBefore tree) (λ (x y : Row × Stand). Before tree x.1 y.1) (λ x y b. b) (take k listed) (sorted_taken k);
    none_twice = distinct_rows k;
    sound =
        λ s m.
        let x = Memᴰ.of_map row_with (take k listed) m in
        let b = x.0.0.basis in
        let h = row_is x.0 (mem_take k listed x.0 x.1) in
        (b, subst (λ (t : Row × Stand). RowOf q tree point t.0 t.1 b) x.2 h);
    complete = λ row st b h. let x = is_listed row st b h in complete row st x;
  }
    where
      complete : (row : Row) (st : Stand) → IsListed row st
          → Memᴰ {A = Row × Stand} (row, st) (map row_with (take k listed))
          ⊎ ((t : Row × Stand) → Memᴰ t (map row_with (take k listed)) → Before tree t.1 st)
      complete row st x = ⊎_elim
          (λ m.
          let e : row_with x.it ≡ (row, st) = λ i. (sym x.same_row i, x.same_stand i) in
          inl (subst (λ (y : Row × Stand). Memᴰ y (map row_with (take k listed))) e (Memᴰ.map row_with m)))
          (λ f. inr (λ t m.
          let y = Memᴰ.of_map row_with (take k listed) m in
          let b = subst (Before tree (stand_of y.0)) x.same_stand (f y.0 y.1) in
          subst (λ (z : Row × Stand). Before tree z.1 st) y.2 b))
          (taken_or_after (SpotBefore tree) k listed x.it (sorted_all tree 0 (listings q)) x.among)

  pub all_rows : AllRows q tree point (rows q tree point)
  all_rows = record {
    first =
        subst (FirstRows q tree point) (take_all (length (rows q tree point)) (rows q tree point) (omega arith))
        (first_rows (length (rows q tree point)));
    none_missing =
        λ row st b h.
        let x = is_listed row st b h in
        let m = subst (λ (r : Row). Memᴰ r (map row_at listed)) (sym x.same_row) (Memᴰ.map row_at x.among) in
        subst (λ (rs : List Row). Memᴰ row rs) (sym (rows_with q tree point)) m;
  }

  -- THE NEXT ROW

  pub spots_listed : spots q tree ≡ map (λ (s : Spot × ℕ). s.0) listed
  spots_listed = sym (all_spots tree 0 (listings q))

  pub same_lengths : length (rows q tree point) ≡ length listed
  same_lengths = ap length (rows_with q tree point) ∙ length-map listed row_at

  pub spots_lengths : length (spots q tree) ≡ length listed
  spots_lengths = ap length spots_listed ∙ length-map listed (λ (s : Spot × ℕ). s.0)

  given_length : (k : ℕ) → k ≤ length listed → length (take k (rows q tree point)) ≡ k
  given_length k h = length-take-le k (rows q tree point) (omega (arith, same_lengths))

  total_is : total q tree ≡ length listed
  total_is = sym (rows_length q tree point) ∙ same_lengths

  pub ended : (k : ℕ) → k ≤ length listed → length listed ≤ k → Ended q tree point (take k (rows q tree point))
  ended k h l = record {
    all = subst (AllRows q tree point) (sym (take_all k (rows q tree point) (omega (arith, same_lengths)))) all_rows;
    as_many = omega (arith, given_length k h, total_is);
  }

  pub left_over : (k : ℕ) → k < length listed → Left q tree point (take k (rows q tree point))
  left_over k l = omega (arith, given_length k (omega arith), total_is)

  pub next : (k : ℕ) → k < length listed → (c : Cut (SpotBefore tree) listed k)
      → Next q tree point (take k (rows q tree point)) (row_at c.it) c.it.0.basis
  next k l c = record {
    left = left_over k l;
    stand = stand_of c.it;
    is_row = row_is c.it c.among;
    is_new =
        λ m.
        let x = Memᴰ.of_map row_at (take k listed) (subst (λ (rs : List Row). Memᴰ (row_at c.it) rs) (taken_rows k) m) in
        row_once x.0 c.it (mem_take k listed x.0 x.1) c.among (c.after x.0 x.1) x.2;
    is_first = λ other st b h n. first other st (is_listed other st b h) n;
  }
    where
      first : (other : Row) (st : Stand) → IsListed other st → (Memᴰ other (take k (rows q tree point)) → ⊥)
          → (other ≡ row_at c.it) ⊎ Before tree (stand_of c.it) st
      first other st x n = ⊎_elim
          (λ m. absurd (n (subst (λ (rs : List Row). Memᴰ other rs) (sym (taken_rows k))
          (subst (λ (r : Row). Memᴰ r (map row_at (take k listed))) (sym x.same_row) (Memᴰ.map row_at m)))))
          (⊎_elim (λ e. inl (x.same_row ∙ ap row_at e)) (λ b. inr (subst (Before tree (stand_of c.it)) x.same_stand b)))
          (c.others x.it x.among)

pub rows_agree : RowsAgree
rows_agree bytes q tree point e limits = all_rows q tree point limits (request_fits bytes q e).tags
