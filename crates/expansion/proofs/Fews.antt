-- A few numbers, one by one. Assumes nothing.
use Rattle.std.proofs.Common.{◌≡◌, ℕ, zero, suc, ◌+◌, ◌<◌, ◌≤◌, ◌||◌, eqb, List, [], ◌∷◌, ◌++◌, length, get_or, take, map, sym, refl, ap, subst, ◌∙◌, ap₂, arith}
use Rattle.std.specs.List.{AllZip, list_any}
use Rattle.std.proofs.lemmas.List.{length-take, take_all, take_more}
use Rattle.std.proofs.lemmas.Bool.Decides.{nat_tests}
use Rattle.std.proofs.lemmas.List.Elements.{AllZip-push}
use Rattle.std.proofs.lemmas.Slice.Zip.{AllZip-long}
use Rattle.model.specs.Lists.{upto, any}
use Rattle.single.specs.Numbers.{past}
use Rattle.expansion.specs.declared.few.Few.{Few}
use Rattle.expansion.specs.Few.{held}

pub held_few : (f : Few) → length (held f) ≤ 16
held_few f = omega (arith, length-take f.count f.numbers, f.few)

pub length_upto : (i n : ℕ) → length (upto i n) ≡ n
length_upto i zero = refl
length_upto i (suc n) = ap suc (length_upto (i + 1) n)

upto_last : (i n : ℕ) → upto i (suc n) ≡ upto i n ++ (i + n) ∷ []
upto_last i zero = let e : i ≡ i + 0 = omega arith in ap {B = List ℕ} (λ k. k ∷ []) e
upto_last i (suc n) =
    let e : (i + 1) + n ≡ i + suc n = omega arith in
    ap {B = List ℕ} (λ l. i ∷ l) (upto_last (i + 1) n ∙ ap {B = List ℕ} (λ k. upto (i + 1) n ++ k ∷ []) e)

pub upto_push : (n : ℕ) → upto 0 (n + 1) ≡ upto 0 n ++ n ∷ []
upto_push n =
    let e : n + 1 ≡ suc n = omega arith in
    let f : 0 + n ≡ n = omega arith in
    ap (upto 0) e ∙ upto_last 0 n ∙ ap {B = List ℕ} (λ k. upto 0 n ++ k ∷ []) f

pub past_push : (ks : List ℕ) (k n : ℕ) → past ks ≤ n → k < n → past (ks ++ k ∷ []) ≤ n
past_push [] k n h l = omega arith
past_push (j ∷ ks) k n h l =
    let a : past ks ≤ n = omega arith in
    let b = past_push ks k n a l in
    omega arith

pub past_upto : (i n m : ℕ) → i + n ≤ m → past (upto i n) ≤ m
past_upto i zero m h = omega arith
past_upto i (suc n) m h =
    let a : (i + 1) + n ≤ m = omega arith in
    let b = past_upto (i + 1) n m a in
    omega arith

-- EACH MADE OF THE ONE BESIDE IT

module _ (R : ℕ → ℕ → Type 0) (xs : List ℕ) (i : ℕ) (each : List ℕ) (made : AllZip R (take i xs) each) where
  pub made_room : i < length xs → length xs ≤ 16 → length each < 16
  made_room h l = omega (arith, AllZip-long R (take i xs) each made, length-take i xs)

  pub made_more : (x : ℕ) (new : List ℕ) → i < length xs → R (get_or xs i 0) x → new ≡ each ++ x ∷ [] → AllZip R (take (i + 1) xs) new
  made_more x new h r e =
      subst (AllZip R (take (i + 1) xs)) (sym e)
      (subst (λ l. AllZip R l (each ++ x ∷ [])) (sym (take_more xs i 0 h)) (AllZip-push R (take i xs) each (get_or xs i 0) x made r))

  pub made_all : (ys : List ℕ) → length xs ≤ i → xs ≡ ys → AllZip R ys each
  made_all ys h e = subst (λ l. AllZip R l each) (take_all i xs h ∙ e) made

pub mapped : (f : ℕ → ℕ) (R : ℕ → ℕ → Type 0) (xs ys : List ℕ) → AllZip R xs ys → ((x y : ℕ) → R x y → y ≡ f x) → ys ≡ map f xs
mapped f R [] [] a h = refl
mapped f R [] (y ∷ ys) a h = absurd a
mapped f R (x ∷ xs) [] a h = absurd a
mapped f R (x ∷ xs) (y ∷ ys) a h = ap₂ {C = List ℕ} (λ z l. z ∷ l) (h x y a.0) (mapped f R xs ys a.1 h)

-- SEARCHED

same_turned : (x y : ℕ) → eqb x y ≡ eqb y x
same_turned x y = grind (arith, nat_tests)

-- as the library's `contains` answers
pub any_is : (c : ℕ) (xs : List ℕ) → list_any (λ y. eqb y c) xs ≡ any (eqb c) xs
any_is c [] = refl
any_is c (x ∷ xs) = ap₂ (λ a b. a || b) (same_turned x c) (any_is c xs)
