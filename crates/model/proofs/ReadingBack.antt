-- What a reader takes certain bytes for. Assumes nothing.
use Rattle.std.proofs.Common.{◌≡◌, ℕ, ◌+◌, ◌≤◌, Bool, true, false, cond, leb, List, [], ◌∷◌, ◌++◌, length, take, drop, Some, Ok, sym, refl, ap, ◌∙◌, subst, ap₂, append_assoc, append-nil, arith, length-append}
use Rattle.std.specs.List.{flat_map}
use Rattle.std.proofs.lemmas.List.{take_at, drop_at}
use Rattle.std.proofs.lemmas.Bool.{and_from, le-leb, cond-true}
use Rattle.model.specs.declared.item.Kind.{Kind}
use Rattle.model.specs.Layout.{got, Reader, on, ◌>>=◌, give, refuse, when, unless, inside, within, some, more, many, end, outcome, file, code, flags, bytes, text}
use Rattle.model.specs.Spelling.{Between, spell_text, spell_list}

-- the reader takes these bytes for x, and stops behind them
pub record Reads {X : Type 0} (r : Reader X) (w : List ℕ) (x : X) : Type 0 where
  pub reads : (p : ℕ) (rest : List ℕ) → (q : ℕ) × (r p (w ++ rest) ≡ got x q rest)

module _ {X : Type 0} where
  pub reads_give : (x y : X) → x ≡ y → Reads (give x) [] y
  reads_give x y e = record { reads = λ p rest. (p, ap (λ z. got z p rest) e) }

  pub reads_within : (k : Kind) (n : ℕ) (r : Reader X) (w : List ℕ) (x : X) → Reads r w x → Reads (within k n r) w x
  reads_within k n r w x h = record { reads = λ p rest. ((h.reads p rest).0, ap (inside (record { kind = k; number = n })) (h.reads p rest).1) }

  pub reads_there : (b : Bool) (absent : X) (r : Reader X) (w : List ℕ) (x : X) → b ≡ true → Reads r w x → Reads (when b absent r) w x
  reads_there b absent r w x e h = subst (λ c. Reads (when c absent r) w x) (sym e) h

  pub reads_absent : (b : Bool) (absent : X) (r : Reader X) (x : X) → b ≡ false → absent ≡ x → Reads (when b absent r) [] x
  reads_absent b absent r x e h = subst (λ c. Reads (when c absent r) [] x) (sym e) (reads_give absent x h)

  pub reads_unless : (bad : X → Bool) (n : ℕ) (r : Reader X) (w : List ℕ) (x : X) → bad x ≡ false → Reads r w x → Reads (unless bad n r) w x
  reads_unless bad n r w x e h = record {
    reads = λ p rest. (
      (h.reads p rest).0,
      ap (λ z. on z (λ y q cs. cond (bad y) (refuse n p (w ++ rest)) (got y q cs))) (h.reads p rest).1
          ∙ ap (λ t. cond t (refuse n p (w ++ rest)) (got x (h.reads p rest).0 rest)) e,
    );
  }

module _ {X Y : Type 0} where
  pub reads_bind : {r : Reader X} (k : X → Reader Y) (w v : List ℕ) (x : X) {y : Y} → Reads r w x → Reads (k x) v y → Reads (r >>= k) (w ++ v) y
  reads_bind {r} k w v x {y} h g = record {
    reads = λ p rest.
        let a = h.reads p (v ++ rest) in
        let b = g.reads a.0 rest in
        (b.0, ap (λ bs. on (r p bs) k) (append_assoc w v rest) ∙ (ap (λ z. on z k) a.1 ∙ b.1));
  }

  -- the last step of a reader
  pub reads_map : {r : Reader X} (f : X → Y) (w : List ℕ) (x : X) → Reads r w x → Reads (r >>= λ z. give (f z)) w (f x)
  reads_map {r} f w x h = record { reads = λ p rest. ((h.reads p rest).0, ap (λ z. on z (λ y. give (f y))) (h.reads p rest).1) }

pub reads_some : {X : Type 0} (r : Reader X) (w : List ℕ) (x : X) → Reads r w x → Reads (some r) w (Some x)
reads_some r w x h = reads_map (λ z. Some z) w x h

-- FIELDS

pub reads_code : (low high b : ℕ) → Between low high b → Reads (code low high) (b ∷ []) b
reads_code low high b h = record {
  reads = λ p rest. (p + 1, ap (λ t. cond t (got b (p + 1) rest) (refuse 13 p (b ∷ rest))) (and_from (leb low b) (leb b high) (le-leb low b h.0) (le-leb b high h.1)));
}

pub reads_flags : (named m : ℕ) → m ≤ named → Reads (flags named) (m ∷ []) m
reads_flags named m h = record { reads = λ p rest. (p + 1, ap (λ t. cond t (got m (p + 1) rest) (refuse 12 p (m ∷ rest))) (le-leb m named h)) }

reads_bytes : (t : List ℕ) → Reads (bytes (length t)) t t
reads_bytes t = record {
  reads = λ p rest. (
    p + length t,
    cond-true (leb (length t) (length (t ++ rest))) (got (take (length t) (t ++ rest)) (p + length t) (drop (length t) (t ++ rest))) (refuse 11 (p + length (t ++ rest)) (t ++ rest))
        (le-leb (length t) (length (t ++ rest)) (omega (arith, length-append t rest)))
        ∙ ap₂ (λ x y. got x (p + length t) y) (take_at t rest (length t) refl) (drop_at t rest (length t) refl),
  );
}

pub reads_text : (low high : ℕ) (t : List ℕ) → Between low high (length t) → Reads (text low high) (spell_text t) t
reads_text low high t h = reads_bind bytes (length t ∷ []) t (length t) (reads_code low high (length t) h) (reads_bytes t)

-- LISTS OF ITEMS, each read knowing those before it

module _ {X : Type 0} (item : ℕ → List X → Reader X) (spell : X → List ℕ) (Good : List X → Type 0)
    (one : (i : ℕ) (xs : List X) (x : X) (zs : List X) → Good (xs ++ x ∷ zs) → Reads (item i xs) (spell x) x) where
  reads_more : (i : ℕ) (xs zs : List X) → Good (xs ++ zs) → Reads (more item (length zs) i xs) (flat_map spell zs) (xs ++ zs)
  reads_more i xs [] g = reads_give xs (xs ++ []) (sym (append-nil xs))
  reads_more i xs (z ∷ zs) g =
      let e : (xs ++ z ∷ []) ++ zs ≡ xs ++ z ∷ zs = append_assoc xs (z ∷ []) zs in
      reads_bind (λ x. more item (length zs) (i + 1) (xs ++ x ∷ [])) (spell z) (flat_map spell zs) z (one i xs z zs g)
      (subst (λ ys. Reads (more item (length zs) (i + 1) (xs ++ z ∷ [])) (flat_map spell zs) ys) e (reads_more (i + 1) (xs ++ z ∷ []) zs (subst Good (sym e) g)))

  pub reads_list : (low high : ℕ) (xs : List X) → Between low high (length xs) → Good xs → Reads (code low high >>= many item) (spell_list spell xs) xs
  reads_list low high xs h g = reads_bind (many item) (length xs ∷ []) (flat_map spell xs) (length xs) (reads_code low high (length xs) h) (reads_more 0 [] xs g)

-- A WHOLE FILE

pub back : {X : Type 0} (r : Reader X) (w : List ℕ) (x : X) → Reads r w x → file r w ≡ Ok x
back r w x h =
    let a = h.reads 0 [] in
    ap (λ bs. outcome (on (r 0 bs) end)) (sym (append-nil w)) ∙ ap (λ z. outcome (on z end)) a.1
