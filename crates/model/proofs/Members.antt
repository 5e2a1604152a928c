-- What lists hold, and lists in order. Assumes nothing.
use Rattle.std.proofs.Common.{◌≡◌, ℕ, zero, suc, ◌+◌, ◌<◌, ◌≤◌, Bool, true, false, cond, not, ◌&&◌, ◌||◌, ◌⊎◌, List, [], ◌∷◌, ◌++◌, map, length, take, Some, None, Option, sym, refl, ap, ◌∙◌, subst, ap₂, inl, inr, ⊎_elim, le_of_suc-le-suc, arith}
use mathlib.Core.List.Memᴰ
use mathlib.Core.List.{Memᴰ}
use Rattle.std.specs.List.{flat_map, AllByRecursion}
use Rattle.std.proofs.lemmas.List.{map-append}
use Rattle.std.proofs.lemmas.Bool.{or_cases, or_left, or_right, both_ways, false≢true}
use Rattle.model.specs.Order.{Sorted}
use Rattle.model.specs.Lists.{upto, any, keep, found}

-- THE FIRST OF A LIST, AND LISTS IN ORDER

module _ {A : Type 0} where
  pub mem_take : (k : ℕ) (xs : List A) (x : A) → Memᴰ x (take k xs) → Memᴰ x xs
  mem_take zero xs x m = absurd (Memᴰ.not-nil m)
  mem_take (suc k) [] x m = m
  mem_take (suc k) (y ∷ ys) x m = ⊎_elim (λ e. Memᴰ.head e) (λ t. Memᴰ.tail (mem_take k ys x t)) (Memᴰ.cases_cons m)

  -- a list that holds something is not empty
  pub one_of : (x : A) (xs : List A) → Memᴰ x xs → 1 ≤ length xs
  one_of x [] m = absurd (Memᴰ.not-nil m)
  one_of x (y ∷ ys) m = omega arith

module _ {A : Type 0} (R : A → A → Type 0) where
  pub sorted_append : (xs ys : List A) → Sorted R xs → Sorted R ys → ((x y : A) → Memᴰ x xs → Memᴰ y ys → R x y) → Sorted R (xs ++ ys)
  sorted_append [] ys s t h = t
  sorted_append (x ∷ xs) ys s t h = (
    λ y m. ⊎_elim (s.0 y) (h x y (Memᴰ.head refl)) (Memᴰ.append_cases xs m),
    sorted_append xs ys s.1 t (λ a b m n. h a b (Memᴰ.tail m) n),
  )

  pub sorted_take : (k : ℕ) (xs : List A) → Sorted R xs → Sorted R (take k xs)
  sorted_take zero xs s = tt
  sorted_take (suc k) [] s = tt
  sorted_take (suc k) (x ∷ xs) s = (λ y m. s.0 y (mem_take k xs y m), sorted_take k xs s.1)

  -- an element of a list in order is among the first k, or after all of them
  pub taken_or_after : (k : ℕ) (xs : List A) (x : A) → Sorted R xs → Memᴰ x xs
      → Memᴰ x (take k xs) ⊎ ((y : A) → Memᴰ y (take k xs) → R y x)
  taken_or_after zero xs x s m = inr (λ y n. absurd (Memᴰ.not-nil n))
  taken_or_after (suc k) [] x s m = inl m
  taken_or_after (suc k) (z ∷ xs) x s m =
      ⊎_elim (λ e. inl (Memᴰ.head e)) (λ t. ⊎_elim (λ n. inl (Memᴰ.tail n)) (λ f. inr (later f t)) (taken_or_after k xs x s.1 t))
      (Memᴰ.cases_cons m)
    where
      later : ((y : A) → Memᴰ y (take k xs) → R y x) → Memᴰ x xs → (y : A) → Memᴰ y (z ∷ take k xs) → R y x
      later f t y n = ⊎_elim (λ e. subst (λ u. R u x) (sym e) (s.0 x t)) (f y) (Memᴰ.cases_cons n)

module _ {A B : Type 0} (f : A → B) (S : A → A → Type 0) (R : B → B → Type 0) where
  pub sorted_map : ((x y : A) → S x y → R (f x) (f y)) → (xs : List A) → Sorted S xs → Sorted R (map f xs)
  sorted_map h [] s = tt
  sorted_map h (x ∷ xs) s =
      (λ y m. let r = Memᴰ.of_map f xs m in subst (λ u. R (f x) u) r.2 (h x r.0 (s.0 r.0 r.1)), sorted_map h xs s.1)

-- THOSE THAT PASS A TEST

module _ {A : Type 0} (p : A → Bool) where
  keep_here : (x y : A) (xs : List A) (b : Bool) → p y ≡ b → p x ≡ true → x ≡ y → Memᴰ x (cond b (y ∷ keep p xs) (keep p xs))
  keep_here x y xs true e t q = Memᴰ.head q
  keep_here x y xs false e t q = absurd (false≢true (sym e ∙ (ap p (sym q) ∙ t)))

  keep_there : (x y : A) (xs : List A) (b : Bool) → Memᴰ x (keep p xs) → Memᴰ x (cond b (y ∷ keep p xs) (keep p xs))
  keep_there x y xs true m = Memᴰ.tail m
  keep_there x y xs false m = m

  pub mem_keep : (x : A) (xs : List A) → Memᴰ x xs → p x ≡ true → Memᴰ x (keep p xs)
  mem_keep x [] m t = m
  mem_keep x (y ∷ ys) m t = ⊎_elim (keep_here x y ys (p y) refl t) (λ n. keep_there x y ys (p y) (mem_keep x ys n t)) (Memᴰ.cases_cons m)

  of_keep_step : (x y : A) (xs : List A) (b : Bool) → p y ≡ b → (Memᴰ x (keep p xs) → Memᴰ x xs × (p x ≡ true))
      → Memᴰ x (cond b (y ∷ keep p xs) (keep p xs)) → Memᴰ x (y ∷ xs) × (p x ≡ true)
  of_keep_step x y xs true e f m =
      ⊎_elim {C = Memᴰ x (y ∷ xs) × (p x ≡ true)} (λ q. (Memᴰ.head q, ap p q ∙ e)) (λ n. (Memᴰ.tail (f n).0, (f n).1))
      (Memᴰ.cases_cons m)
  of_keep_step x y xs false e f m = (Memᴰ.tail (f m).0, (f m).1)

  pub of_keep : (x : A) (xs : List A) → Memᴰ x (keep p xs) → Memᴰ x xs × (p x ≡ true)
  of_keep x [] m = absurd (Memᴰ.not-nil m)
  of_keep x (y ∷ ys) m = of_keep_step x y ys (p y) refl (of_keep x ys) m

  sorted_keep_step : (R : A → A → Type 0) (x : A) (xs : List A) (b : Bool) → ((y : A) → Memᴰ y xs → R x y) → Sorted R (keep p xs)
      → Sorted R (cond b (x ∷ keep p xs) (keep p xs))
  sorted_keep_step R x xs true h s = (λ y m. h y (of_keep y xs m).0, s)
  sorted_keep_step R x xs false h s = s

  pub sorted_keep : (R : A → A → Type 0) (xs : List A) → Sorted R xs → Sorted R (keep p xs)
  sorted_keep R [] s = tt
  sorted_keep R (x ∷ xs) s = sorted_keep_step R x xs (p x) s.0 (sorted_keep R xs s.1)

  keep_none_step : (x : A) (xs : List A) (b : Bool) → p x ≡ b → (p x ≡ true → ⊥) → keep p xs ≡ [] → cond b (x ∷ keep p xs) (keep p xs) ≡ []
  keep_none_step x xs true e f q = absurd (f e)
  keep_none_step x xs false e f q = q

  pub keep_none : (xs : List A) → ((x : A) → Memᴰ x xs → p x ≡ true → ⊥) → keep p xs ≡ []
  keep_none [] f = refl
  keep_none (x ∷ xs) f = keep_none_step x xs (p x) refl (f x (Memᴰ.head refl)) (keep_none xs (λ y m. f y (Memᴰ.tail m)))

  keep_length_step : (x : A) (xs : List A) (b : Bool) → length (keep p xs) ≤ length xs → length (cond b (x ∷ keep p xs) (keep p xs)) ≤ length (x ∷ xs)
  keep_length_step x xs true h = omega arith
  keep_length_step x xs false h = omega arith

  pub keep_length : (xs : List A) → length (keep p xs) ≤ length xs
  keep_length [] = omega arith
  keep_length (x ∷ xs) = keep_length_step x xs (p x) (keep_length xs)

-- those that pass p or r are those that pass p, and those of the others that pass r
split_step : {A : Type 0} (x : A) (ps qs rs : List A) (b c : Bool) → length qs ≡ length ps + length rs
    → length (cond (b || c) (x ∷ qs) qs) ≡ length (cond b (x ∷ ps) ps) + length (cond ((b || c) && not b) (x ∷ rs) rs)
split_step x ps qs rs true true e = omega arith
split_step x ps qs rs true false e = omega arith
split_step x ps qs rs false true e = omega arith
split_step x ps qs rs false false e = e

pub keep_split : {A : Type 0} (p r : A → Bool) (xs : List A)
    → length (keep (λ x. p x || r x) xs) ≡ length (keep p xs) + length (keep (λ x. (p x || r x) && not (p x)) xs)
keep_split p r [] = refl
keep_split p r (x ∷ xs) =
    split_step x (keep p xs) (keep (λ y. p y || r y) xs) (keep (λ y. (p y || r y) && not (p y)) xs) (p x) (r x) (keep_split p r xs)

-- NUMBERS FROM ONE ON

pub same_or_above : (x i : ℕ) → i ≤ x → (x ≡ i) ⊎ (i + 1 ≤ x)
same_or_above zero zero h = inl refl
same_or_above zero (suc i) h = absurd (omega arith)
same_or_above (suc x) zero h = inr (omega arith)
same_or_above (suc x) (suc i) h = ⊎_elim (λ e. inl (ap suc e)) (λ l. inr (omega arith)) (same_or_above x i (le_of_suc-le-suc h))

pub mem_upto : (x i n : ℕ) → i ≤ x → x < i + n → Memᴰ x (upto i n)
mem_upto x i zero h l = absurd (omega arith)
mem_upto x i (suc n) h l = ⊎_elim (λ e. Memᴰ.head e) (λ k. Memᴰ.tail (mem_upto x (i + 1) n k (omega arith))) (same_or_above x i h)

pub of_upto : (x i n : ℕ) → Memᴰ x (upto i n) → (i ≤ x) × (x < i + n)
of_upto x i zero m = absurd (Memᴰ.not-nil m)
of_upto x i (suc n) m =
    ⊎_elim {C = (i ≤ x) × (x < i + suc n)} (λ e. (omega arith, omega arith)) (λ t. let r = of_upto x (i + 1) n t in (omega arith, omega arith))
    (Memᴰ.cases_cons m)

pub sorted_upto : (i n : ℕ) → Sorted (λ a b. a < b) (upto i n)
sorted_upto i zero = tt
sorted_upto i (suc n) = (λ y m. omega (arith, of_upto y (i + 1) n m), sorted_upto (i + 1) n)

pub length_upto : (i n : ℕ) → length (upto i n) ≡ n
length_upto i zero = refl
length_upto i (suc n) = ap suc (length_upto (i + 1) n)

-- WHETHER ONE PASSES

pub any_some : (p : ℕ → Bool) (xs : List ℕ) → any p xs ≡ true → (x : ℕ) × Memᴰ x xs × (p x ≡ true)
any_some p [] e = absurd (false≢true e)
any_some p (x ∷ xs) e =
    ⊎_elim {C = (x : ℕ) × Memᴰ x (_ ∷ xs) × (p x ≡ true)} (λ h. (x, Memᴰ.head refl, h))
    (λ h. let r = any_some p xs h in (r.0, Memᴰ.tail r.1, r.2)) (or_cases (p x) (any p xs) e)

pub some_any : (p : ℕ → Bool) (x : ℕ) (xs : List ℕ) → Memᴰ x xs → p x ≡ true → any p xs ≡ true
some_any p x [] m e = absurd (Memᴰ.not-nil m)
some_any p x (y ∷ ys) m e =
    ⊎_elim (λ q. or_left (p y) (any p ys) (ap p (sym q) ∙ e)) (λ t. or_right (p y) (any p ys) (some_any p x ys t e)) (Memᴰ.cases_cons m)

-- LISTS JOINED

module _ {A B : Type 0} (f : A → List B) where
  pub mem_joined : (x : A) (y : B) (xs : List A) → Memᴰ x xs → Memᴰ y (f x) → Memᴰ y (flat_map f xs)
  mem_joined x y [] m n = absurd (Memᴰ.not-nil m)
  mem_joined x y (z ∷ zs) m n =
      ⊎_elim (λ e. Memᴰ.append_left (flat_map f zs) (subst (λ u. Memᴰ y (f u)) e n)) (λ t. Memᴰ.append_right (f z) (mem_joined x y zs t n))
      (Memᴰ.cases_cons m)

  pub of_joined : (y : B) (xs : List A) → Memᴰ y (flat_map f xs) → (x : A) × Memᴰ x xs × Memᴰ y (f x)
  of_joined y [] m = absurd (Memᴰ.not-nil m)
  of_joined y (z ∷ zs) m =
      ⊎_elim {C = (x : A) × Memᴰ x (z ∷ zs) × Memᴰ y (f x)} (λ n. (z, Memᴰ.head refl, n))
      (λ n. let r = of_joined y zs n in (r.0, Memᴰ.tail r.1, r.2)) (Memᴰ.append_cases (f z) m)

  pub sorted_joined : (S : A → A → Type 0) (R : B → B → Type 0) (xs : List A) → Sorted S xs → ((x : A) → Memᴰ x xs → Sorted R (f x))
      → ((x y : A) (u v : B) → S x y → Memᴰ u (f x) → Memᴰ v (f y) → R u v) → Sorted R (flat_map f xs)
  sorted_joined S R [] s h k = tt
  sorted_joined S R (x ∷ xs) s h k =
      sorted_append R (f x) (flat_map f xs) (h x (Memᴰ.head refl)) (sorted_joined S R xs s.1 (λ y m. h y (Memᴰ.tail m)) k)
      (λ u v m n. let r = of_joined v xs n in k x r.0 u v (s.0 r.0 r.1) m r.2)

  pub map_joined : {C : Type 0} (g : B → C) (h : A → List C) → ((x : A) → map g (f x) ≡ h x) → (xs : List A) → map g (flat_map f xs) ≡ flat_map h xs
  map_joined g h e [] = refl
  map_joined {C} g h e (x ∷ xs) = map-append g (f x) (flat_map f xs) ∙ ap₂ (λ (a b : List C). a ++ b) (e x) (map_joined g h e xs)

pub map_map : {A B C : Type 0} (f : B → C) (g : A → B) (xs : List A) → map f (map g xs) ≡ map (λ x. f (g x)) xs
map_map f g [] = refl
map_map {C} f g (x ∷ xs) = ap (λ (t : List C). f (g x) ∷ t) (map_map f g xs)

-- WHAT HOLDS OF EACH

module _ {A : Type 0} (P : A → Type 0) where
  pub all_from : (xs : List A) → ((x : A) → Memᴰ x xs → P x) → AllByRecursion P xs
  all_from [] f = tt
  all_from (x ∷ xs) f = (f x (Memᴰ.head refl), all_from xs (λ y m. f y (Memᴰ.tail m)))

  pub all_in : (xs : List A) → AllByRecursion P xs → (x : A) → Memᴰ x xs → P x
  all_in [] h x m = absurd (Memᴰ.not-nil m)
  all_in (y ∷ ys) h x m = ⊎_elim (λ e. subst P (sym e) h.0) (all_in ys h.1 x) (Memᴰ.cases_cons m)

  pub all_keep : (p : A → Bool) (xs : List A) → AllByRecursion P xs → AllByRecursion P (keep p xs)
  all_keep p xs h = all_from (keep p xs) (λ x m. all_in xs h x (of_keep p x xs m).0)

-- THE FIRST THAT PASSES

module _ {A : Type 0} where
  abbrev pub Finds : (A → Bool) → List A → Option A → Type 0
  Finds p xs None = (x : A) → Memᴰ x xs → p x ≡ true → ⊥
  Finds p xs (Some x) = Memᴰ x xs × (p x ≡ true)

  finds_on : (p : A → Bool) (x : A) (xs : List A) (o : Option A) → p x ≡ false → Finds p xs o → Finds p (x ∷ xs) o
  finds_on p x xs None q h = λ y m e. ⊎_elim (λ r. both_ways (p x) q (ap p (sym r) ∙ e)) (λ t. h y t e) (Memᴰ.cases_cons m)
  finds_on p x xs (Some y) q h = (Memᴰ.tail h.0, h.1)

  pub finds : (p : A → Bool) (xs : List A) → Finds p xs (found p xs)
  finds p [] = λ x m e. Memᴰ.not-nil m
  finds p (x ∷ xs) = step (p x) refl (finds p xs)
    where
      step : (b : Bool) → p x ≡ b → Finds p xs (found p xs) → Finds p (x ∷ xs) (cond b (Some x) (found p xs))
      step true q h = (Memᴰ.head refl, q)
      step false q h = finds_on p x xs (found p xs) q h
