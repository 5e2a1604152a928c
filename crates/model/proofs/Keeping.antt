-- What holds of all that a reader gives. Assumes nothing.
use Rattle.std.proofs.Common.{◌≡◌, ℕ, zero, suc, ◌+◌, ◌*◌, ◌≤◌, Bool, true, false, cond, ◌&&◌, leb, List, [], ◌∷◌, ◌++◌, length, Ok, Err, Result, refl, subst, arith}
use Rattle.std.proofs.lemmas.List.{length_push}
use Rattle.std.proofs.lemmas.Bool.{and_parts, leb-true}
use Rattle.model.specs.Layout.{Refusal, Reading, Reader, on, ◌>>=◌, refuse, end, outcome, more, many, file, code, flags, text, wide, got, refused}
use Rattle.model.specs.Spelling.{Between, spell_text}
use Rattle.model.proofs.Giving.{Taken, Gives, gives_give, gives_weaker, gives_bind, gives_code, gives_flags, gives_text}

-- of every value that the reader gives, P holds
abbrev pub Keeps : {X : Type 0} → (X → Type 0) → Reader X → Type 0
Keeps P r = Gives r (λ w x. P x)

module _ {X Y : Type 0} (P : X → Type 0) (Q : Y → Type 0) where
  pub keeps_bind : {r : Reader X} {k : X → Reader Y} → Keeps P r → ((x : X) → P x → Keeps Q (k x)) → Keeps Q (r >>= k)
  keeps_bind g f = gives_bind (λ w x. P x) (λ w y. Q y) g (λ x w h. f x h)

-- FIELDS

pub keeps_flags : (named : ℕ) → Keeps (λ m. m ≤ named) (flags named)
keeps_flags named = gives_weaker (λ w m. (w ≡ m ∷ []) × (m ≤ named)) (λ w m. m ≤ named) (λ w m h. h.1) (gives_flags named)

pub keeps_code : (low high : ℕ) → Keeps (Between low high) (code low high)
keeps_code low high =
    gives_weaker (λ w n. (w ≡ n ∷ []) × Between low high n) (λ w n. Between low high n) (λ w n h. h.1) (gives_code low high)

pub keeps_text : (low high : ℕ) → Keeps (λ t. Between low high (length t)) (text low high)
keeps_text low high =
    gives_weaker (λ w t. (w ≡ spell_text t) × Between low high (length t)) (λ w t. Between low high (length t)) (λ w t h. h.1)
    (gives_text low high)

pub keeps_wide : (low high : ℕ) → Keeps (λ n. n ≤ high) (wide low high)
keeps_wide low high = record { gives = taken }
  where
    tested : (a b p : ℕ) (rest : List ℕ) (t : Bool) → (leb low (a * 256 + b) && leb (a * 256 + b) high) ≡ t
        → Taken (λ w n. n ≤ high) (a ∷ b ∷ rest) (cond t (got (a * 256 + b) (p + 2) rest) (refuse 13 p rest))
    tested a b p rest true e =
        (a ∷ b ∷ [], refl, leb-true (a * 256 + b) high (and_parts (leb low (a * 256 + b)) (leb (a * 256 + b) high) e).1)
    tested a b p rest false e = tt

    taken : (p : ℕ) (bs : List ℕ) → Taken (λ w n. n ≤ high) bs (wide low high p bs)
    taken p [] = tt
    taken p (a ∷ []) = tt
    taken p (a ∷ b ∷ rest) = tested a b p rest (leb low (a * 256 + b) && leb (a * 256 + b) high) refl

-- items of which each keeps what holds of those before it
module _ {X : Type 0} (Good : List X → Type 0) (item : ℕ → List X → Reader X) where
  abbrev pub AsMany : ℕ → List X → Type 0
  AsMany n xs = Good xs × (length xs ≡ n)

  keeps_more : ((i : ℕ) (xs : List X) → Good xs → Keeps (λ x. Good (xs ++ x ∷ [])) (item i xs))
      → (n i k : ℕ) (xs : List X) → AsMany k xs → Keeps (AsMany (k + n)) (more item n i xs)
  keeps_more one zero i k xs h = gives_give (λ w ys. AsMany (k + 0) ys) xs (subst (λ m. AsMany m xs) {x = k} {y = k + 0} (omega arith) h)
  keeps_more one (suc n) i k xs h =
      keeps_bind (λ x. Good (xs ++ x ∷ [])) (AsMany (k + suc n)) (one i xs h.0) (λ x g.
      subst (λ m. Keeps (AsMany m) (more item n (i + 1) (xs ++ x ∷ []))) {x = k + 1 + n} {y = k + suc n} (omega arith)
      (keeps_more one n (i + 1) (k + 1) (xs ++ x ∷ []) (g, omega (arith, h.1, length_push xs x))))

  pub keeps_many : ((i : ℕ) (xs : List X) → Good xs → Keeps (λ x. Good (xs ++ x ∷ [])) (item i xs)) → Good []
      → (n : ℕ) → Keeps (AsMany n) (many item n)
  keeps_many one g n =
      subst (λ m. Keeps (AsMany m) (many item n)) {x = 0 + n} {y = n} (omega arith) (keeps_more one n 0 0 [] (g, refl))

-- A WHOLE FILE

module _ {X : Type 0} (P : X → Type 0) where
  abbrev Kept : Result X Refusal → Type 0
  Kept (Ok x) = P x
  Kept (Err e) = Unit {0}

  kept_end : (x : X) (p : ℕ) (rest : List ℕ) → P x → Kept (outcome (end x p rest))
  kept_end x p [] h = h
  kept_end x p (b ∷ rest) h = tt

  kept_on : (bs : List ℕ) (z : Reading X) → Taken (λ w x. P x) bs z → Kept (outcome (on z end))
  kept_on bs (got x p rest) t = kept_end x p rest t.2
  kept_on bs (refused e) t = tt

  pub kept_file : (r : Reader X) → Keeps P r → (bytes : List ℕ) (x : X) → file r bytes ≡ Ok x → P x
  kept_file r g bytes x e = subst Kept e (kept_on bytes (r 0 bytes) (g.gives 0 bytes))
