-- What the least child tells, and marking the children one after the other. Assumes nothing.
use Rattle.std.proofs.Common.{◌≡◌, ℕ, zero, suc, ◌+◌, ◌-◌, ◌<◌, ◌≤◌, Bool, true, false, cond, ◌&&◌, ◌||◌, ltb, ◌≢◌, List, length, get_or, set, Some, None, Option, sym, refl, ap, ◌∙◌, subst, ⊎_elim, arith}
use Rattle.std.proofs.lemmas.List.{get_or-set_same, get_or-set_other}
use Rattle.std.proofs.lemmas.Bool.{lt-ltb, le-ltb, and_right, and_from, or_right, both_ways, cases_lt, cases_eq, cases_order}
use Rattle.model.specs.Lists.{upto, found}
use Rattle.model.specs.Tree.{Tree, count, Limits}
use Rattle.tree.specs.Questions.{least_child}

pub record FirstIs (p : ℕ → Bool) (i n c : ℕ) : Type 0 where
  pub low : i ≤ c
  pub high : c < i + n
  pub hit : p c ≡ true
  pub before : (k : ℕ) → i ≤ k → k < c → p k ≡ false

pub first_is : (p : ℕ → Bool) (i n c : ℕ) → Some c ≡ found p (upto i n) → FirstIs p i n c
first_is p i zero c e = let z : ◌≡◌ {A = ℕ} 0 1 = cc in absurd (omega arith)
first_is p i (suc n) c e = go (p i) refl e (first_is p (i + 1) n c)
  where
    go : (b : Bool) → p i ≡ b → Some c ≡ cond b (Some i) (found p (upto (i + 1) n)) → (Some c ≡ found p (upto (i + 1) n) → FirstIs p (i + 1) n c) → FirstIs p i (suc n) c
    go true t e rest =
        let same : i ≡ c = cc in
        record { low = omega arith; high = omega arith; hit = subst (λ x. p x ≡ true) same t; before = λ k h l. absurd (omega arith) }
    go false t e rest =
        let r = rest e in
        record {
          low = omega arith;
          high = omega arith;
          hit = r.hit;
          before = λ k h l. ⊎_elim (λ s. subst (λ x. p x ≡ false) s t) (λ ne. r.before k (omega arith) l) (cases_eq i k);
        }

pub first_not : (p : ℕ → Bool) (i n : ℕ) → None ≡ found p (upto i n) → (k : ℕ) → i ≤ k → k < i + n → p k ≡ false
first_not p i zero e k h l = absurd (omega arith)
first_not p i (suc n) e k h l = go (p i) refl e (first_not p (i + 1) n)
  where
    go : (b : Bool) → p i ≡ b → None ≡ cond b (Some i) (found p (upto (i + 1) n)) → (None ≡ found p (upto (i + 1) n) → (k : ℕ) → i + 1 ≤ k → k < (i + 1) + n → p k ≡ false) → p k ≡ false
    go true t e rest = let z : ◌≡◌ {A = ℕ} 0 1 = cc in absurd (omega arith)
    go false t e rest = ⊎_elim (λ s. subst (λ x. p x ≡ false) s t) (λ ne. rest e k (omega arith) (omega arith)) (cases_eq i k)

-- r is the least number from i on that passes, if any does
pub data Least (p : ℕ → Bool) (i : ℕ) : Option ℕ → Type 0 where
  none_passes : ((k : ℕ) → i ≤ k → p k ≡ false) → Least p i None
  least_is : {n : ℕ} → i ≤ n → p n ≡ true → ((k : ℕ) → i ≤ k → k < n → p k ≡ false) → Least p i (Some n)

pub least_first : (p : ℕ → Bool) (from most : ℕ) (r : Option ℕ) → ((k : ℕ) → p k ≡ true → k < most) → Least p from r → r ≡ found p (upto from (most - from))
least_first p from most r inside l = go l (found p (upto from (most - from))) refl
  where
    go : {r : Option ℕ} → Least p from r → (o : Option ℕ) → o ≡ found p (upto from (most - from)) → r ≡ o
    go (none_passes f) None e = refl
    go (none_passes f) (Some c) e = let r = first_is p from (most - from) c e in absurd (both_ways (p c) (f c r.low) r.hit)
    go (least_is {n} low hit before) None e =
        absurd (both_ways (p n) (first_not p from (most - from) e n low (omega (arith, inside n hit))) hit)
    go (least_is {n} low hit before) (Some c) e =
        let r = first_is p from (most - from) c e in
        ⊎_elim (λ s. ap Some s)
        (⊎_elim (λ lt. absurd (both_ways (p n) (r.before n low lt) hit)) (λ lt. absurd (both_ways (p c) (before c r.low lt) r.hit))) (cases_order n c)

-- the children below i
abbrev pub below : (ℕ → Bool) → ℕ → ℕ → Bool
below p i k = ltb k i && p k

module _ (tree : Tree) (node from : ℕ) where
  pub child_is : (c : ℕ) → Some c ≡ least_child tree node from → FirstIs (tree.linked node) from (count tree - from) c
  child_is c e = first_is (tree.linked node) from (count tree - from) c e

  pub child_below : (c : ℕ) → Some c ≡ least_child tree node from → c < count tree
  child_below c e = let r = child_is c e in omega arith

  pub child_not : None ≡ least_child tree node from → Limits tree → (k : ℕ) → below (tree.linked node) from k ≡ tree.linked node k
  child_not e limits k = ⊎_elim near far (cases_lt k from)
    where
      gone : from ≤ k → (b : Bool) → tree.linked node k ≡ b → tree.linked node k ≡ false
      gone h true t = first_not (tree.linked node) from (count tree - from) e k h (omega (arith, (limits.between_nodes node k t).1))
      gone h false t = t

      near : k < from → below (tree.linked node) from k ≡ tree.linked node k
      near h = ap (λ x. x && tree.linked node k) (lt-ltb k from h)

      far : from ≤ k → below (tree.linked node) from k ≡ tree.linked node k
      far h = let n = gone h (tree.linked node k) refl in and_right _ _ n ∙ sym n

  pub child_more : (c : ℕ) → Some c ≡ least_child tree node from → (k : ℕ) → k ≢ c → below (tree.linked node) from k ≡ below (tree.linked node) (c + 1) k
  child_more c e k ne = ⊎_elim near (λ h. ⊎_elim (between h) far (cases_lt k c)) (cases_lt k from)
    where
      r : FirstIs (tree.linked node) from (count tree - from) c
      r = child_is c e

      near : k < from → below (tree.linked node) from k ≡ below (tree.linked node) (c + 1) k
      near h = ap (λ x. x && tree.linked node k) (lt-ltb k from h ∙ sym (lt-ltb k (c + 1) (omega (arith, r.low))))

      between : from ≤ k → k < c → below (tree.linked node) from k ≡ below (tree.linked node) (c + 1) k
      between h l = let n = r.before k h l in and_right _ _ n ∙ sym (and_right (ltb k (c + 1)) _ n)

      far : c ≤ k → below (tree.linked node) from k ≡ below (tree.linked node) (c + 1) k
      far h = ap (λ x. x && tree.linked node k) (le-ltb k from (omega (arith, r.low)) ∙ sym (le-ltb k (c + 1) (omega arith)))

  -- one more child is marked
  pub marked_more : (start now : List Bool) (c : ℕ) → length now ≡ 1024 → count tree ≤ 1024 → Some c ≡ least_child tree node from
      → ((k : ℕ) → k < 1024 → get_or now k false ≡ (get_or start k false || below (tree.linked node) from k))
      → (k : ℕ) → k < 1024 → get_or (set now c true) k false ≡ (get_or start k false || below (tree.linked node) (c + 1) k)
  marked_more start now c long few e inv k h = ⊎_elim here there (cases_eq k c)
    where
      r : FirstIs (tree.linked node) from (count tree - from) c
      r = child_is c e

      here : k ≡ c → get_or (set now c true) k false ≡ (get_or start k false || below (tree.linked node) (c + 1) k)
      here s =
          let inside : c < length now = omega (arith, child_below c e) in
          let hit : tree.linked node k ≡ true = subst (λ x. tree.linked node x ≡ true) (sym s) r.hit in
          subst (λ x. get_or (set now c true) x false ≡ true) (sym s) (get_or-set_same now c true false inside)
          ∙ sym (or_right (get_or start k false) _ (and_from _ _ (lt-ltb k (c + 1) (omega arith)) hit))

      there : (k ≡ c → ⊥) → get_or (set now c true) k false ≡ (get_or start k false || below (tree.linked node) (c + 1) k)
      there ne = get_or-set_other now c k true false ne ∙ inv k h ∙ ap (λ x. get_or start k false || x) (child_more c e k ne)
