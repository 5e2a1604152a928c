-- What is told settles the answer. Assumes nothing.
-- The next row is unique, since Before holds one way round at most, and what it rests on is settled by the row; so two answers cannot both be right.
use Rattle.std.proofs.Common.{◌≡◌, ℕ, ◌⊎◌, List, [], ◌∷◌, ◌++◌, length, drop, sym, refl, ap, ◌∙◌, subst, inl, inr, ⊎_elim, arith}
use mathlib.Core.List.Memᴰ
use mathlib.Core.List.{Memᴰ, head-eq_of_cons-eq, tail-eq_of_cons-eq}
use Rattle.std.proofs.lemmas.Bool.{both_ways}
use Rattle.model.specs.declared.decision.Cause.{Cause}
use Rattle.model.specs.declared.call.CallRefusal.TheVariants.{TooShort}
use Rattle.model.specs.Order.{Sorted}
use Rattle.model.specs.Content.{Element, Request}
use Rattle.model.specs.Spelling.{OtherTag}
use Rattle.model.specs.Tree.{Tree, Limits}
use Rattle.model.specs.Points.{Point}
use Rattle.model.specs.Rows.{listings, single_bytes, Basis, Spot, Row, fault, single}
use Rattle.model.specs.Meaning.{Less, Stand, RowOf, Before}
use Rattle.model.specs.Law.{Call, Reply}
use Rattle.model.specs.Conversation.{Ended, Left, Next, Told, AnswersAreSettled}
use Rattle.model.proofs.Positions.{some_same, not_less}
use Rattle.model.proofs.SpotOf.{SpotBefore}
use Rattle.model.proofs.Spots.{sorted_all, complete_all}
use Rattle.model.proofs.Single.{request_fits}
use Rattle.model.proofs.Meant.{spot_of_row}
use Rattle.model.proofs.Ordered.{listed, row_at, row_once}
use Rattle.model.proofs.Verdicts.{one_verdict}

less_apart : {ps qs us vs : List ℕ} → Less ps qs → Less us vs → us ≡ qs → vs ≡ ps → ⊥
less_apart (Less.at_first {p} {q} l) (Less.at_first {p = u} {q = v} k) e f =
    let x : u ≡ q = head-eq_of_cons-eq e in
    let y : v ≡ p = head-eq_of_cons-eq f in
    omega arith
less_apart (Less.at_first {p} {q} l) (Less.then_on {p = u} k) e f =
    let x : u ≡ q = head-eq_of_cons-eq e in
    let y : u ≡ p = head-eq_of_cons-eq f in
    omega arith
less_apart (Less.then_on {p} l) (Less.at_first {p = u} {q = v} k) e f =
    let x : u ≡ p = head-eq_of_cons-eq e in
    let y : v ≡ p = head-eq_of_cons-eq f in
    omega arith
less_apart (Less.then_on l) (Less.then_on k) e f = less_apart l k (tail-eq_of_cons-eq e) (tail-eq_of_cons-eq f)

before_apart : (tree : Tree) (s t : Stand) → Before tree s t → Before tree t s → ⊥
before_apart tree s t (Before.by_reference l) (Before.by_reference k) = omega arith
before_apart tree s t (Before.by_reference l) (Before.by_choice e _ _ _) = omega arith
before_apart tree s t (Before.by_reference l) (Before.by_distance e _ _) = omega arith
before_apart tree s t (Before.by_reference l) (Before.by_node e _ _ _ _ _) = omega arith
before_apart tree s t (Before.by_choice e _ _ _) (Before.by_reference k) = omega arith
before_apart tree s t (Before.by_choice {ps} {qs} _ a b l) (Before.by_choice {ps = us} {qs = vs} _ c d k) =
    less_apart l k (some_same t.choice us qs c b) (some_same s.choice vs ps d a)
before_apart tree s t (Before.by_choice {ps} {qs} _ a b l) (Before.by_distance _ c _) = not_less ps qs l (some_same s.choice ps qs a (sym c ∙ b))
before_apart tree s t (Before.by_choice {ps} {qs} _ a b l) (Before.by_node _ c _ _ _ _) = not_less ps qs l (some_same s.choice ps qs a (sym c ∙ b))
before_apart tree s t (Before.by_distance e _ l) (Before.by_reference k) = omega arith
before_apart tree s t (Before.by_distance _ c _) (Before.by_choice {ps} {qs} _ a b l) = not_less ps qs l (some_same t.choice ps qs a (sym c ∙ b))
before_apart tree s t (Before.by_distance _ _ l) (Before.by_distance _ _ k) = omega arith
before_apart tree s t (Before.by_distance _ _ l) (Before.by_node _ _ e _ _ _) = omega arith
before_apart tree s t (Before.by_node e _ _ _ _ _) (Before.by_reference k) = omega arith
before_apart tree s t (Before.by_node _ c _ _ _ _) (Before.by_choice {ps} {qs} _ a b l) = not_less ps qs l (some_same t.choice ps qs a (sym c ∙ b))
before_apart tree s t (Before.by_node _ _ e _ _ _) (Before.by_distance _ _ k) = omega arith
before_apart tree s t (Before.by_node {m} {n} _ _ _ a b l) (Before.by_node {m = i} {n = j} _ _ _ c d k) =
    omega (arith, some_same s.node m j a d, some_same t.node n i b c)

sorted_either : {A : Type 0} (R : A → A → Type 0) (xs : List A) → Sorted R xs → (x y : A) → Memᴰ x xs → Memᴰ y xs
    → (x ≡ y) ⊎ (R x y ⊎ R y x)
sorted_either R [] s x y m n = absurd (Memᴰ.not-nil m)
sorted_either R (z ∷ zs) s x y m n = ⊎_elim
    (λ e. ⊎_elim (λ f. inl (e ∙ sym f)) (λ u. inr (inl (subst (λ w. R w y) (sym e) (s.0 y u)))) (Memᴰ.cases_cons n))
    (λ t. ⊎_elim (λ f. inr (inr (subst (λ w. R w x) (sym f) (s.0 x t)))) (λ u. sorted_either R zs s.1 x y t u) (Memᴰ.cases_cons n))
    (Memᴰ.cases_cons m)

abbrev elements_in : Basis → List Element
elements_in (fault c p) = []
elements_in (single es) = es

abbrev IsFault : Basis → Type 0
IsFault (fault c p) = Unit {0}
IsFault (single es) = ⊥

module _ (q : Request) (tree : Tree) (point : Point) (limits : Limits tree) (apart : Sorted OtherTag q.elements) (given : List Row) where
  next_row : (r u : Row) (b c : Basis) → Next q tree point given r b → Next q tree point given u c → r ≡ u
  next_row r u b c x y = ⊎_elim (λ e. sym e)
      (λ l. ⊎_elim (λ e. e) (λ k. absurd (before_apart tree x.stand y.stand l k)) (y.is_first r x.stand b x.is_row x.is_new))
      (x.is_first u y.stand c y.is_row y.is_new)

  -- what a row rests on is settled
  one_basis : (r u : Row) (s t : Stand) (b c : Basis) → RowOf q tree point r s b → RowOf q tree point u t c → r ≡ u → b ≡ c
  one_basis r u s t b c h k e =
      let x = spot_of_row point q tree limits apart r s b h in
      let y = spot_of_row point q tree limits apart u t c k in
      let i : Spot × ℕ = (x.0.spot, x.0.distance) in
      let j : Spot × ℕ = (y.0.spot, y.0.distance) in
      let m = complete_all q tree limits i.0 i.1 x.0.is_spot in
      let n = complete_all q tree limits j.0 j.1 y.0.is_spot in
      let same : row_at q tree point limits apart i ≡ row_at q tree point limits apart j = sym x.1 ∙ (e ∙ y.1) in
      sym x.0.same_basis ∙ (⊎_elim (λ f. ap (λ (z : Spot × ℕ). z.0.basis) f)
      (⊎_elim (λ f. absurd (row_once q tree point limits apart i j m n f same))
      (λ f. absurd (row_once q tree point limits apart j i n m f (sym same)))) (sorted_either (SpotBefore tree)
      (listed q tree point limits apart) (sorted_all tree 0 (listings q)) i j m n) ∙ y.0.same_basis)

  next_basis : (r u : Row) (b c : Basis) → Next q tree point given r b → Next q tree point given u c → b ≡ c
  next_basis r u b c x y = one_basis r u x.stand y.stand b c x.is_row y.is_row (next_row r u b c x y)

  same_single : (r u : Row) (es fs : List Element) → Next q tree point given r (single es) → Next q tree point given u (single fs) → es ≡ fs
  same_single r u es fs x y = ap elements_in (next_basis r u (single es) (single fs) x y)

  not_both : (r u : Row) (es : List Element) (c : Cause) (p : ℕ) → Next q tree point given r (single es) → Next q tree point given u (fault c p) → ⊥
  not_both r u es c p x y = subst IsFault (sym (next_basis r u (single es) (fault c p) x y)) tt

  not_ended : (r : Row) (b : Basis) → Next q tree point given r b → Ended q tree point given → ⊥
  not_ended r b x e = let l = x.left in omega (arith, e.as_many)

  not_left : Left q tree point given → Ended q tree point given → ⊥
  not_left l e = omega (arith, e.as_many)

  abbrev written : List ℕ → List Element → Reply
  written buffer es = Reply.wrote (length (single_bytes es)) (single_bytes es ++ drop (length (single_bytes es)) buffer)

  pub settled : (c : Call) (a b : Reply) → Told q tree point given c a → Told q tree point given c b → a ≡ b
  settled c a b (Told.a_row {r} {b = d} x) (Told.a_row {r = u} {b = f} y) = ap Reply.row (next_row r u d f x y)
  settled c a b (Told.a_row {r} {b = d} x) (Told.no_row e) = absurd (not_ended r d x e)
  settled c a b (Told.no_row e) (Told.a_row {r} {b = d} x) = absurd (not_ended r d x e)
  settled c a b (Told.no_row e) (Told.no_row f) = refl
  settled c a b (Told.written {buffer} {r} {es} x l o) (Told.written {r = u} {es = fs} y k p) = ap (written buffer) (same_single r u es fs x y)
  settled c a b (Told.written {r} {es} x l o) (Told.nothing_to_show e) = absurd (not_ended r (single es) x e)
  settled c a b (Told.written {r} {es} x l o) (Told.fault_to_show {r = u} {c = d} {p} y) = absurd (not_both r u es d p x y)
  settled c a b (Told.written {r} {es} x l o) (Told.too_little_room {r = u} {es = fs} y k) =
      let e = ap (λ (t : List Element). length (single_bytes t)) (same_single r u es fs x y) in
      absurd (omega arith)
  settled c a b (Told.nothing_to_show e) (Told.written {r} {es} x l o) = absurd (not_ended r (single es) x e)
  settled c a b (Told.nothing_to_show e) (Told.nothing_to_show f) = refl
  settled c a b (Told.nothing_to_show e) (Told.fault_to_show {r} {c = d} {p} x) = absurd (not_ended r (fault d p) x e)
  settled c a b (Told.nothing_to_show e) (Told.too_little_room {r} {es} x l) = absurd (not_ended r (single es) x e)
  settled c a b (Told.fault_to_show {r = u} {c = d} {p} y) (Told.written {r} {es} x l o) = absurd (not_both r u es d p x y)
  settled c a b (Told.fault_to_show {r} {c = d} {p} x) (Told.nothing_to_show e) = absurd (not_ended r (fault d p) x e)
  settled c a b (Told.fault_to_show x) (Told.fault_to_show y) = refl
  settled c a b (Told.fault_to_show {r = u} {c = d} {p} y) (Told.too_little_room {r} {es} x l) = absurd (not_both r u es d p x y)
  settled c a b (Told.too_little_room {r = u} {es = fs} y k) (Told.written {r} {es} x l o) =
      let e = ap (λ (t : List Element). length (single_bytes t)) (same_single r u es fs x y) in
      absurd (omega arith)
  settled c a b (Told.too_little_room {r} {es} x l) (Told.nothing_to_show e) = absurd (not_ended r (single es) x e)
  settled c a b (Told.too_little_room {r} {es} x l) (Told.fault_to_show {r = u} {c = d} {p} y) = absurd (not_both r u es d p x y)
  settled c a b (Told.too_little_room {r} {es} x l) (Told.too_little_room {r = u} {es = fs} y k) =
      ap (λ (t : List Element). Reply.refuses (TooShort (length (single_bytes t)))) (same_single r u es fs x y)
  settled c a b Told.back_to_the_start Told.back_to_the_start = refl
  settled c a b (Told.a_verdict {d} t e v) (Told.a_verdict {d = f} u g w) = ap Reply.judged (one_verdict given d f v w)
  settled c a b (Told.a_verdict t e v) (Told.no_verdict_asked u) = absurd (both_ways q.combined u t)
  settled c a b (Told.a_verdict t e v) (Told.rows_left u l) = absurd (not_left l e)
  settled c a b (Told.no_verdict_asked u) (Told.a_verdict t e v) = absurd (both_ways q.combined u t)
  settled c a b (Told.no_verdict_asked u) (Told.no_verdict_asked t) = refl
  settled c a b (Told.no_verdict_asked u) (Told.rows_left t l) = absurd (both_ways q.combined u t)
  settled c a b (Told.rows_left u l) (Told.a_verdict t e v) = absurd (not_left l e)
  settled c a b (Told.rows_left t l) (Told.no_verdict_asked u) = absurd (both_ways q.combined u t)
  settled c a b (Told.rows_left u l) (Told.rows_left t k) = refl

pub answers_are_settled : AnswersAreSettled
answers_are_settled bytes q tree point e limits given call one other x y =
    settled q tree point limits (request_fits bytes q e).tags given call one other x y
