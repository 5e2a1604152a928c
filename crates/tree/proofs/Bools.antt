-- Laws of tests, and of a test at each number of a list. Assumes nothing.
use Rattle.std.proofs.Common.{◌≡◌, ℕ, zero, suc, ◌+◌, Bool, true, false, cond, not, ◌&&◌, ◌||◌, List, [], ◌∷◌, ◌++◌, sym, refl, ap, ◌∙◌, add-zero, arith}
use mathlib.Core.List.{Memᴰ}
use Rattle.std.proofs.lemmas.Bool.{true≢false}
use Rattle.model.specs.Lists.{upto, any, keep}

pub absorb : (s p : Bool) → (p && not s) ≡ false → s ≡ (s || p)
absorb true p h = refl
absorb false true h = absurd (true≢false h)
absorb false false h = refl

swap_or : (a b c d : Bool) → ((a || b) || (c || d)) ≡ ((a || c) || (b || d))
swap_or true b c d = refl
swap_or false true true d = refl
swap_or false true false d = refl
swap_or false false c d = refl

pub any_or : (p q : ℕ → Bool) (ns : List ℕ) → (any p ns || any q ns) ≡ any (λ n. p n || q n) ns
any_or p q [] = refl
any_or p q (n ∷ ns) = swap_or (p n) (any p ns) (q n) (any q ns) ∙ ap (λ x. (p n || q n) || x) (any_or p q ns)

pub any_keep : (p q : ℕ → Bool) (ns : List ℕ) → any q (keep p ns) ≡ any (λ n. p n && q n) ns
any_keep p q [] = refl
any_keep p q (n ∷ ns) = go (p n) (any_keep p q ns)
  where
    go : (b : Bool) → any q (keep p ns) ≡ any (λ n. p n && q n) ns → any q (cond b (n ∷ keep p ns) (keep p ns)) ≡ ((b && q n) || any (λ n. p n && q n) ns)
    go true h = ap (λ x. q n || x) h
    go false h = h

pub any_same : (p q : ℕ → Bool) → ((n : ℕ) → p n ≡ q n) → (ns : List ℕ) → any p ns ≡ any q ns
any_same p q h [] = refl
any_same p q h (n ∷ ns) = ap (λ x. x || any p ns) (h n) ∙ ap (λ x. q n || x) (any_same p q h ns)

pub keep_same : (p q : ℕ → Bool) (ns : List ℕ) → ((n : ℕ) → Memᴰ n ns → p n ≡ q n) → keep p ns ≡ keep q ns
keep_same p q [] h = refl
keep_same p q (n ∷ ns) h =
    ap (λ b. cond b (n ∷ keep p ns) (keep p ns)) (h n (Memᴰ.head refl)) ∙ ap (λ l. cond (q n) (n ∷ l) l) (keep_same p q ns (λ m i. h m (Memᴰ.tail i)))

pub keep_push : (p : ℕ → Bool) (ns : List ℕ) (m : ℕ) → keep p (ns ++ m ∷ []) ≡ keep p ns ++ cond (p m) (m ∷ []) []
keep_push p [] m = refl
keep_push p (n ∷ ns) m = go (p n) (keep_push p ns m)
  where
    go : (b : Bool) → keep p (ns ++ m ∷ []) ≡ keep p ns ++ cond (p m) (m ∷ []) []
        → cond b (n ∷ keep p (ns ++ m ∷ [])) (keep p (ns ++ m ∷ [])) ≡ cond b (n ∷ keep p ns) (keep p ns) ++ cond (p m) (m ∷ []) []
    go true h = ap (λ (l : List ℕ). n ∷ l) h
    go false h = h

pub upto_more : (i n : ℕ) → upto i (suc n) ≡ upto i n ++ (i + n) ∷ []
upto_more i zero = ap (λ (k : ℕ). k ∷ []) (sym (add-zero i))
upto_more i (suc n) =
    let e : i + 1 + n ≡ i + suc n = omega arith in
    ap (λ (l : List ℕ). i ∷ l) (upto_more (i + 1) n ∙ ap (λ (k : ℕ). upto (i + 1) n ++ k ∷ []) e)
