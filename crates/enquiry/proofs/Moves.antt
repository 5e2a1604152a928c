-- What each call answers where so many rows have been handed out, and how an enquiry then stands. Assumes nothing.
use Rattle.std.proofs.Common.{◌≡◌, ℕ, zero, suc, ◌<◌, ◌≤◌, Bool, true, false, ◌&&◌, List, [], ◌∷◌, ◌++◌, length, take, drop, is_some, Some, None, Option, sym, refl, ap, ◌∙◌, arith}
use Rattle.std.proofs.lemmas.List.{length-map, take_all}
use Rattle.std.proofs.lemmas.Bool.{lt-ltb, le-ltb}
use Rattle.model.specs.declared.call.CallRefusal.TheVariants.{Ended}
use Rattle.model.specs.Content.{Request}
use Rattle.model.specs.Lists.{nth}
use Rattle.model.specs.Tree.{Tree}
use Rattle.model.specs.Points.{Point}
use Rattle.model.specs.Rows.{Spot, spots, Row, row_at_spot, rows}
use Rattle.model.specs.Law as law
use Rattle.model.specs.Law.{Call, Reply, is_permitting, all_permit, step_reply, is_left, reply, after}
use Rattle.model.proofs.Positions.{nth_map, nth_below, nth_past}
use Rattle.cursor.specs.Ahead.{next_of, later}
use Rattle.cursor.proofs.Rows.{nth_some}

module _ {A : Type 0} where
  pub none_of : (o : Option A) → is_some o ≡ false → o ≡ None
  none_of None h = refl
  none_of (Some x) h = let z : ◌≡◌ {A = ℕ} 0 1 = cc in absurd (omega arith)

  pub some_of : (o : Option A) → is_some o ≡ true → (x : A) × (o ≡ Some x)
  some_of None h = let z : ◌≡◌ {A = ℕ} 0 1 = cc in absurd (omega arith)
  some_of (Some x) h = (x, refl)

-- LISTS

pub next_drop : (ss : List Spot) (k : ℕ) → next_of (drop k ss) ≡ nth ss k
next_drop [] zero = refl
next_drop [] (suc k) = refl
next_drop (s ∷ ss) zero = refl
next_drop (s ∷ ss) (suc k) = next_drop ss k

pub later_drop : (ss : List Spot) (k : ℕ) → later (drop k ss) ≡ drop (suc k) ss
later_drop [] zero = refl
later_drop [] (suc k) = refl
later_drop (s ∷ ss) zero = refl
later_drop (s ∷ ss) (suc k) = later_drop ss k

pub nth_end : {A : Type 0} (xs : List A) (k : ℕ) → nth xs k ≡ None → length xs ≤ k
nth_end [] k e = omega arith
nth_end (x ∷ xs) zero e = let z : ◌≡◌ {A = ℕ} 0 1 = cc in absurd (omega arith)
nth_end (x ∷ xs) (suc k) e = let r = nth_end xs k e in omega arith

permit_more : (rs : List Row) (r : Row) → (all_permit rs && is_permitting r.decision) ≡ all_permit (rs ++ r ∷ [])
permit_more [] r = alone (is_permitting r.decision)
  where
    alone : (b : Bool) → b ≡ (b && true)
    alone true = refl
    alone false = refl
permit_more (x ∷ rs) r = both (is_permitting x.decision) ∙ ap (λ b. is_permitting x.decision && b) (permit_more rs r)
  where
    both : (b : Bool) → ((b && all_permit rs) && is_permitting r.decision) ≡ (b && (all_permit rs && is_permitting r.decision))
    both true = refl
    both false = refl

module _ (q : Request) (tree : Tree) (point : Point) (k : ℕ) where
  as_many : length (rows q tree point) ≡ length (spots q tree)
  as_many = length-map (spots q tree) (row_at_spot point)

  -- WHERE NO ROW IS LEFT

  module _ (at : nth (spots q tree) k ≡ None) where
    pub none_left : is_left q tree point k ≡ false
    none_left = le-ltb k (length (rows q tree point)) (omega (arith, nth_end (spots q tree) k at, as_many))

    pub no_row : reply q tree point law.step k ≡ law.refuses Ended
    no_row = ap step_reply (nth_past (rows q tree point) k (omega (arith, nth_end (spots q tree) k at, as_many)))

    pub all_given : take k (rows q tree point) ≡ rows q tree point
    all_given = take_all k (rows q tree point) (omega (arith, nth_end (spots q tree) k at, as_many))

  -- WHERE ONE IS

  module _ (s : Spot) (at : nth (spots q tree) k ≡ Some s) where
    pub within : k < length (spots q tree)
    within = (nth_some (spots q tree) k s at).0

    pub one_left : is_left q tree point k ≡ true
    one_left = lt-ltb k (length (rows q tree point)) (omega (arith, within, as_many))

    row_here : nth (rows q tree point) k ≡ Some (row_at_spot point s)
    row_here = nth_map (row_at_spot point) (spots q tree) k s at

    pub a_row : reply q tree point law.step k ≡ law.row (row_at_spot point s)
    a_row = ap step_reply row_here

    pub permitted_on : (b c : Bool) → b ≡ all_permit (take k (rows q tree point)) → c ≡ is_permitting (row_at_spot point s).decision
        → (b && c) ≡ all_permit (take (suc k) (rows q tree point))
    permitted_on b c e f =
        let r = nth_below (rows q tree point) k (omega (arith, within, as_many)) in
        let same : r.0 ≡ row_at_spot point s = cc (r.1, row_here) in
        (λ i. e i && f i)
        ∙ permit_more (take k (rows q tree point)) (row_at_spot point s)
        ∙ ap (λ (x : Row). all_permit (take k (rows q tree point) ++ x ∷ [])) (sym same)
        ∙ ap all_permit (sym r.2)
