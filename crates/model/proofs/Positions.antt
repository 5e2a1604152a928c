-- Places in lists, lists related place by place, and lists in order that hold the same. Assumes nothing.
use Rattle.std.proofs.Common.{◌≡◌, ℕ, zero, suc, ◌<◌, ◌≤◌, ◌⊎◌, List, [], ◌∷◌, ◌++◌, map, length, get_or, take, Some, None, Option, sym, refl, ap, ◌∙◌, subst, ap₂, inl, inr, ⊎_elim, le_of_suc-le-suc, not-suc-le-zero, arith}
use mathlib.Core.List.Memᴰ
use mathlib.Core.List.{Memᴰ, head-eq_of_cons-eq, tail-eq_of_cons-eq}
use Rattle.model.specs.Order.{Sorted}
use Rattle.model.specs.Lists.{nth, At, Pairwise}
use Rattle.model.specs.Meaning.{Less}

-- PLACES

module _ {A : Type 0} where
  pub at_nil : {n : ℕ} {x : A} → At n x [] → ⊥
  at_nil a = elim a [ ]

  pub at_cases : {n : ℕ} {t x : A} {xs : List A} → At n t (x ∷ xs) → ((n ≡ 0) × (t ≡ x)) ⊎ ((k : ℕ) × (n ≡ suc k) × At k t xs)
  at_cases At.first = inl (refl, refl)
  at_cases (At.later {n = k} a) = inr (k, refl, a)

  pub at_same : {n : ℕ} {x y : A} {xs : List A} → At n x xs → At n y xs → x ≡ y
  at_same At.first At.first = refl
  at_same (At.later a) (At.later b) = at_same a b

  pub at_mem : {n : ℕ} {x : A} {xs : List A} → At n x xs → Memᴰ x xs
  at_mem At.first = Memᴰ.head refl
  at_mem (At.later a) = Memᴰ.tail (at_mem a)

  pub mem_at : (x : A) (xs : List A) → Memᴰ x xs → (n : ℕ) × At n x xs
  mem_at x [] m = absurd (Memᴰ.not-nil m)
  mem_at x (y ∷ ys) m =
      ⊎_elim {C = (n : ℕ) × At n x (y ∷ ys)} (λ e. (0, subst (λ z. At 0 x (z ∷ ys)) e At.first))
      (λ t. let r = mem_at x ys t in (suc r.0, At.later r.1)) (Memᴰ.cases_cons m)

  pub at_below : {n : ℕ} {x : A} {xs : List A} → At n x xs → n < length xs
  at_below At.first = omega arith
  at_below (At.later a) = omega (arith, at_below a)

  pub below_at : (n : ℕ) (xs : List A) → n < length xs → (x : A) × At n x xs
  below_at n [] h = absurd (not-suc-le-zero h)
  below_at zero (x ∷ xs) h = (x, At.first)
  below_at (suc n) (x ∷ xs) h = let r = below_at n xs (le_of_suc-le-suc h) in (r.0, At.later r.1)

  pub at_get_d : (d : A) {n : ℕ} {x : A} {xs : List A} → At n x xs → get_or xs n d ≡ x
  at_get_d d At.first = refl
  at_get_d d (At.later a) = at_get_d d a

  pub get_d_at : (d : A) (n : ℕ) (xs : List A) → n < length xs → At n (get_or xs n d) xs
  get_d_at d n xs h = let r = below_at n xs h in subst (λ x. At n x xs) (sym (at_get_d d r.1)) r.1

  at_after : {n : ℕ} {x y : A} {xs : List A} → At (suc n) x (y ∷ xs) → At n x xs
  at_after (At.later a) = a

  -- lists that have the same at each place are equal
  pub same_places : (xs ys : List A) → ((n : ℕ) (x : A) → At n x xs → At n x ys) → ((n : ℕ) (x : A) → At n x ys → At n x xs) → xs ≡ ys
  same_places [] [] f g = refl
  same_places [] (y ∷ ys) f g = absurd (at_nil (g 0 y At.first))
  same_places (x ∷ xs) [] f g = absurd (at_nil (f 0 x At.first))
  same_places (x ∷ xs) (y ∷ ys) f g = ap₂ (λ (a : A) (b : List A). a ∷ b) (at_same (f 0 x At.first) At.first)
      (same_places xs ys (λ n z a. at_after (f (suc n) z (At.later a))) (λ n z a. at_after (g (suc n) z (At.later a))))

module _ {A B : Type 0} (f : A → B) where
  pub at_map : {n : ℕ} {x : A} {xs : List A} → At n x xs → At n (f x) (map f xs)
  at_map At.first = At.first
  at_map (At.later a) = At.later (at_map a)

  pub of_at_map : (n : ℕ) (y : B) (xs : List A) → At n y (map f xs) → (x : A) × At n x xs × (f x ≡ y)
  of_at_map n y [] a = absurd (at_nil a)
  of_at_map n y (x ∷ xs) At.first = (x, At.first, refl)
  of_at_map n y (x ∷ xs) (At.later {n = k} a) = let r = of_at_map k y xs a in (r.0, At.later r.1, r.2)

-- PLACE BY PLACE

module _ {A B : Type 0} (R : A → B → Type 0) where
  pub pairwise_at : {xs : List A} {ys : List B} → Pairwise R xs ys → {n : ℕ} {x : A} → At n x xs → (y : B) × At n y ys × R x y
  pairwise_at Pairwise.none a = absurd (at_nil a)
  pairwise_at (Pairwise.both {y} h p) At.first = (y, At.first, h)
  pairwise_at (Pairwise.both h p) (At.later a) = let r = pairwise_at p a in (r.0, At.later r.1, r.2)

  pub pairwise_same : ((x : A) (y z : B) → R x y → R x z → y ≡ z) → {xs : List A} {ys zs : List B} → Pairwise R xs ys → Pairwise R xs zs → ys ≡ zs
  pairwise_same h Pairwise.none Pairwise.none = refl
  pairwise_same h (Pairwise.both {x} {y} r p) (Pairwise.both {y = z} s q) = ap₂ (λ (a : B) (b : List B). a ∷ b) (h x y z r s) (pairwise_same h p q)

  pub pairwise_is : (f : A → B) → ((x : A) (y : B) → R x y → y ≡ f x) → {xs : List A} {ys : List B} → Pairwise R xs ys → ys ≡ map f xs
  pairwise_is f h Pairwise.none = refl
  pairwise_is f h (Pairwise.both {x} {y} r p) = ap₂ (λ (a : B) (b : List B). a ∷ b) (h x y r) (pairwise_is f h p)

module _ {A B C : Type 0} (R : B → C → Type 0) (f : A → B) (g : A → C) where
  pub pairwise_maps : (xs : List A) → ((x : A) → Memᴰ x xs → R (f x) (g x)) → Pairwise R (map f xs) (map g xs)
  pairwise_maps [] h = Pairwise.none
  pairwise_maps (x ∷ xs) h = Pairwise.both (h x (Memᴰ.head refl)) (pairwise_maps xs (λ y m. h y (Memᴰ.tail m)))

-- IN ORDER, BY PLACES

module _ {A : Type 0} (R : A → A → Type 0) where
  pub sorted_at : {xs : List A} → Sorted R xs → {j k : ℕ} {x y : A} → j < k → At j x xs → At k y xs → R x y
  sorted_at s l At.first At.first = absurd (omega arith)
  sorted_at s {y} l At.first (At.later b) = s.0 y (at_mem b)
  sorted_at s l (At.later a) At.first = absurd (omega arith)
  sorted_at s l (At.later {n = j} a) (At.later {n = k} b) = sorted_at s.1 {j = j} {k = k} (omega arith) a b

  pub sorted_from : (xs : List A) → ((j k : ℕ) (x y : A) → j < k → At j x xs → At k y xs → R x y) → Sorted R xs
  sorted_from [] f = tt
  sorted_from (x ∷ xs) f = (
    λ y m. let a = mem_at y xs m in f 0 (suc a.0) x y (omega arith) At.first (At.later a.1),
    sorted_from xs (λ j k a b l p q. f (suc j) (suc k) a b (omega arith) (At.later p) (At.later q)),
  )

-- two lists in order that hold the same are equal
module _ {A : Type 0} (R : A → A → Type 0) (apart : (x y : A) → R x y → R y x → ⊥) where
  pub same_sorted : (xs ys : List A) → Sorted R xs → Sorted R ys → ((x : A) → Memᴰ x xs → Memᴰ x ys)
      → ((x : A) → Memᴰ x ys → Memᴰ x xs) → xs ≡ ys
  same_sorted [] [] s t f g = refl
  same_sorted [] (y ∷ ys) s t f g = absurd (Memᴰ.not-nil (g y (Memᴰ.head refl)))
  same_sorted (x ∷ xs) [] s t f g = absurd (Memᴰ.not-nil (f x (Memᴰ.head refl)))
  same_sorted (x ∷ xs) (y ∷ ys) s t f g =
      let here = Memᴰ.cases_cons (f x (Memᴰ.head refl)) in
      let there = Memᴰ.cases_cons (g y (Memᴰ.head refl)) in
      let e : x ≡ y = ⊎_elim (λ e. e) (λ m. ⊎_elim (λ e. sym e) (λ n. absurd (apart x y (s.0 y n) (t.0 x m))) there) here in
      let not_x : (z : A) → Memᴰ z xs → z ≡ y → ⊥ = λ z m q. let r : R x x = subst (R x) (q ∙ sym e) (s.0 z m) in apart x x r r in
      let not_y : (z : A) → Memᴰ z ys → z ≡ x → ⊥ = λ z m q. let r : R y y = subst (R y) (q ∙ e) (t.0 z m) in apart y y r r in
      ap₂ (λ (a : A) (b : List A). a ∷ b) e (
      same_sorted xs ys s.1 t.1
      (λ z m. ⊎_elim (λ q. absurd (not_x z m q)) (λ n. n) (Memᴰ.cases_cons (f z (Memᴰ.tail m))))
      (λ z m. ⊎_elim (λ q. absurd (not_y z m q)) (λ n. n) (Memᴰ.cases_cons (g z (Memᴰ.tail m))))
      )

module _ {A : Type 0} (R S : A → A → Type 0) where
  pub sorted_weaker : (xs : List A) → ((x y : A) → Memᴰ x xs → Memᴰ y xs → R x y → S x y) → Sorted R xs → Sorted S xs
  sorted_weaker [] f s = tt
  sorted_weaker (x ∷ xs) f s = (
    λ y m. f x y (Memᴰ.head refl) (Memᴰ.tail m) (s.0 y m),
    sorted_weaker xs (λ a b m n. f a b (Memᴰ.tail m) (Memᴰ.tail n)) s.1,
  )

module _ {A : Type 0} (R : A → A → Type 0) where
  -- what stands at number k: after those before it, and before those after it
  pub record Cut (xs : List A) (k : ℕ) : Type 0 where
    pub it : A
    pub stands : nth xs k ≡ Some it
    pub among : Memᴰ it xs
    pub after : (y : A) → Memᴰ y (take k xs) → R y it
    pub others : (y : A) → Memᴰ y xs → Memᴰ y (take k xs) ⊎ ((y ≡ it) ⊎ R it y)

  pub cut : (xs : List A) (k : ℕ) → k < length xs → Sorted R xs → Cut xs k
  cut [] k h s = absurd (not-suc-le-zero h)
  cut (x ∷ xs) zero h s =
      record {
        it = x;
        stands = refl;
        among = Memᴰ.head refl;
        after = λ y m. absurd (Memᴰ.not-nil m);
        others = λ y m. ⊎_elim (λ e. inr (inl e)) (λ t. inr (inr (s.0 y t))) (Memᴰ.cases_cons m);
      }
  cut (x ∷ xs) (suc k) h s =
      let c = cut xs k (le_of_suc-le-suc h) s.1 in
      record {
        it = c.it;
        stands = c.stands;
        among = Memᴰ.tail c.among;
        after = λ y m. ⊎_elim (λ e. subst (λ z. R z c.it) (sym e) (s.0 c.it c.among)) (c.after y) (Memᴰ.cases_cons m);
        others =
            λ y m. ⊎_elim (λ e. inl (Memᴰ.head e)) (λ t. ⊎_elim (λ n. inl (Memᴰ.tail n)) (λ o. inr o) (c.others y t))
            (Memᴰ.cases_cons m);
      }

-- OPTIONS, AND CHOICES COMPARED

pub some_same : {A : Type 0} (o : Option A) (x y : A) → o ≡ Some x → o ≡ Some y → x ≡ y
some_same o x y p q = cc

pub none_some : {A : Type 0} (o : Option A) (x : A) → o ≡ None → o ≡ Some x → ⊥
none_some o x p q = let z : ◌≡◌ {A = ℕ} 0 1 = cc in omega arith

pub not_less : (ps qs : List ℕ) → Less ps qs → ps ≡ qs → ⊥
not_less ps qs (Less.at_first {p} {q} l) e = let h : p ≡ q = head-eq_of_cons-eq e in omega arith
not_less ps qs (Less.then_on {ps = us} {qs = vs} l) e = not_less us vs l (tail-eq_of_cons-eq e)

-- THE n-TH

module _ {A : Type 0} where
  pub nth_below : (xs : List A) (k : ℕ) → k < length xs → (x : A) × (nth xs k ≡ Some x) × (take (suc k) xs ≡ take k xs ++ x ∷ [])
  nth_below [] k h = absurd (not-suc-le-zero h)
  nth_below (x ∷ xs) zero h = (x, refl, refl)
  nth_below (x ∷ xs) (suc k) h = let r = nth_below xs k (le_of_suc-le-suc h) in (r.0, r.1, ap {B = List A} (λ t. x ∷ t) r.2)

  pub nth_past : (xs : List A) (k : ℕ) → length xs ≤ k → nth xs k ≡ None
  nth_past [] k h = refl
  nth_past (x ∷ xs) zero h = absurd (not-suc-le-zero h)
  nth_past (x ∷ xs) (suc k) h = nth_past xs k (le_of_suc-le-suc h)

pub nth_map : {A B : Type 0} (f : A → B) (xs : List A) (k : ℕ) (x : A) → nth xs k ≡ Some x → nth (map f xs) k ≡ Some (f x)
nth_map f [] k x e = absurd (none_some None x refl e)
nth_map {B} f (y ∷ ys) zero x e = ap {B = Option B} Some (ap f (some_same (Some y) y x refl e))
nth_map f (y ∷ ys) (suc k) x e = nth_map f ys k x e
