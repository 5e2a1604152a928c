-- What a reader gives, if it does not refuse: a value, and the bytes that it took for it. Assumes nothing.
use Rattle.std.proofs.Common.{◌≡◌, ℕ, zero, suc, ◌+◌, ◌≤◌, Bool, true, false, cond, ◌&&◌, leb, List, [], ◌∷◌, ◌++◌, length, take, drop, Some, Ok, Err, Option, Result, sym, refl, ap, ◌∙◌, subst, ap₂, append_assoc, append-nil, arith}
use Rattle.std.specs.List.{flat_map}
use Rattle.std.proofs.lemmas.List.{length-take-le, take-append-drop}
use Rattle.std.proofs.lemmas.Bool.{and_parts, leb-true}
use Rattle.model.specs.declared.item.Item.{Item}
use Rattle.model.specs.declared.item.Kind.{Kind}
use Rattle.model.specs.Layout.{Refusal, Reading, got, refused, Reader, on, ◌>>=◌, give, refuse, when, unless, inside, within, some, more, many, end, outcome, file, byte, code, flags, bytes, text}
use Rattle.model.specs.Spelling.{Between, spell_text, spell_list}

-- R relates the bytes that were taken to the value
abbrev pub Taken : {X : Type 0} → (List ℕ → X → Type 0) → List ℕ → Reading X → Type 0
Taken R bs (got x p rest) = (w : List ℕ) × (bs ≡ w ++ rest) × R w x
Taken R bs (refused e) = Unit {0}

pub record Gives {X : Type 0} (r : Reader X) (R : List ℕ → X → Type 0) : Type 0 where
  pub gives : (p : ℕ) (bs : List ℕ) → Taken R bs (r p bs)

module _ {X : Type 0} (R : List ℕ → X → Type 0) where
  pub gives_give : (x : X) → R [] x → Gives (give x) R
  gives_give x h = record { gives = λ p bs. ([], refl, h) }

  taken_inside : (i : Item) (bs : List ℕ) (z : Reading X) → Taken R bs z → Taken R bs (inside i z)
  taken_inside i bs (got x p rest) h = h
  taken_inside i bs (refused e) h = tt

  pub gives_within : (k : Kind) (n : ℕ) (r : Reader X) → Gives r R → Gives (within k n r) R
  gives_within k n r g = record { gives = λ p bs. taken_inside (record { kind = k; number = n }) bs (r p bs) (g.gives p bs) }

  pub gives_when : (b : Bool) (absent : X) (r : Reader X) → (b ≡ true → Gives r R) → (b ≡ false → R [] absent) → Gives (when b absent r) R
  gives_when b absent r f g = on_test b refl
    where
      on_test : (c : Bool) → b ≡ c → Gives (when c absent r) R
      on_test true e = f e
      on_test false e = gives_give absent (g e)

  taken_good : (bad : X → Bool) (n p : ℕ) (bs cs rest : List ℕ) (x : X) (q : ℕ) (t : Bool)
      → bad x ≡ t → (w : List ℕ) → bs ≡ w ++ rest → R w x → Taken (λ w x. R w x × (bad x ≡ false)) bs (cond t (refuse n p cs) (got x q rest))
  taken_good bad n p bs cs rest x q true e w s h = tt
  taken_good bad n p bs cs rest x q false e w s h = (w, s, (h, e))

  taken_unless : (bad : X → Bool) (n p : ℕ) (bs : List ℕ) (z : Reading X)
      → Taken R bs z → Taken (λ w x. R w x × (bad x ≡ false)) bs (on z (λ x q cs. cond (bad x) (refuse n p bs) (got x q cs)))
  taken_unless bad n p bs (got x q rest) h = taken_good bad n p bs bs rest x q (bad x) refl h.0 h.1 h.2
  taken_unless bad n p bs (refused e) h = tt

  pub gives_unless : (bad : X → Bool) (n : ℕ) (r : Reader X) → Gives r R → Gives (unless bad n r) (λ w x. R w x × (bad x ≡ false))
  gives_unless bad n r g = record { gives = λ p bs. taken_unless bad n p bs (r p bs) (g.gives p bs) }

  module _ (S : List ℕ → X → Type 0) (f : (w : List ℕ) (x : X) → R w x → S w x) where
    taken_weaker : (bs : List ℕ) (z : Reading X) → Taken R bs z → Taken S bs z
    taken_weaker bs (got x p rest) h = (h.0, h.1, f h.0 x h.2)
    taken_weaker bs (refused e) h = tt

    pub gives_weaker : {r : Reader X} → Gives r R → Gives r S
    gives_weaker {r} g = record { gives = λ p bs. taken_weaker bs (r p bs) (g.gives p bs) }

-- one reader after another: what each took, in a row
module _ {X Y : Type 0} (R : List ℕ → X → Type 0) (S : List ℕ → Y → Type 0) where
  taken_after : (bs w rest : List ℕ) (z : Reading Y) → bs ≡ w ++ rest → Taken (λ v y. S (w ++ v) y) rest z → Taken S bs z
  taken_after bs w rest (got y p last) e t = (w ++ t.0, e ∙ ap (λ l. w ++ l) t.1 ∙ sym (append_assoc w t.0 last), t.2)
  taken_after bs w rest (refused r) e t = tt

  taken_on : (bs : List ℕ) (z : Reading X) (k : X → Reader Y) → Taken R bs z → ((x : X) (w : List ℕ) → R w x → Gives (k x) (λ v y. S (w ++ v) y)) → Taken S bs (on z k)
  taken_on bs (got x p rest) k t f = taken_after bs t.0 rest (k x p rest) t.1 ((f x t.0 t.2).gives p rest)
  taken_on bs (refused e) k t f = tt

  pub gives_bind : {r : Reader X} {k : X → Reader Y} → Gives r R → ((x : X) (w : List ℕ) → R w x → Gives (k x) (λ v y. S (w ++ v) y)) → Gives (r >>= k) S
  gives_bind {r} {k} g f = record { gives = λ p bs. taken_on bs (r p bs) k (g.gives p bs) f }

pub gives_some : {X : Type 0} (R : List ℕ → X → Type 0) (S : List ℕ → Option X → Type 0) → ((w : List ℕ) (x : X) → R w x → S w (Some x)) → (r : Reader X) → Gives r R → Gives (some r) S
gives_some R S f r g = gives_bind R S g (λ x w h. gives_give (λ v o. S (w ++ v) o) (Some x) (rw append-nil (f w x h)))

-- FIELDS

module _ (P : ℕ → Type 0) (ok : ℕ → Bool) (n : ℕ) (sound : (b : ℕ) → ok b ≡ true → P b) where
  taken_byte : (p b : ℕ) (rest : List ℕ) (t : Bool) → ok b ≡ t → Taken (λ w x. (w ≡ x ∷ []) × P x) (b ∷ rest) (cond t (got b (p + 1) rest) (refuse n p (b ∷ rest)))
  taken_byte p b rest true e = (b ∷ [], refl, (refl, sound b e))
  taken_byte p b rest false e = tt

  taken_field : (p : ℕ) (bs : List ℕ) → Taken (λ w x. (w ≡ x ∷ []) × P x) bs (byte ok n p bs)
  taken_field p [] = tt
  taken_field p (b ∷ rest) = taken_byte p b rest (ok b) refl

  gives_byte : Gives (byte ok n) (λ w x. (w ≡ x ∷ []) × P x)
  gives_byte = record { gives = taken_field }

pub gives_code : (low high : ℕ) → Gives (code low high) (λ w n. (w ≡ n ∷ []) × Between low high n)
gives_code low high = gives_byte (Between low high) (λ b. leb low b && leb b high) 13 (λ b e. let h = and_parts (leb low b) (leb b high) e in (leb-true low b h.0, leb-true b high h.1))

pub gives_flags : (named : ℕ) → Gives (flags named) (λ w m. (w ≡ m ∷ []) × (m ≤ named))
gives_flags named = gives_byte (λ m. m ≤ named) (λ b. leb b named) 12 (λ b e. leb-true b named e)

gives_bytes : (n : ℕ) → Gives (bytes n) (λ w t. (w ≡ t) × (length t ≡ n))
gives_bytes n = record { gives = λ p bs. enough p bs (leb n (length bs)) refl }
  where
    enough : (p : ℕ) (bs : List ℕ) (t : Bool) → leb n (length bs) ≡ t → Taken (λ w t. (w ≡ t) × (length t ≡ n)) bs (cond t (got (take n bs) (p + n) (drop n bs)) (refuse 11 (p + length bs) bs))
    enough p bs true e = (take n bs, sym (take-append-drop n bs), (refl, length-take-le n bs (leb-true n (length bs) e)))
    enough p bs false e = tt

pub gives_text : (low high : ℕ) → Gives (text low high) (λ w t. (w ≡ spell_text t) × Between low high (length t))
gives_text low high =
    let S : List ℕ → List ℕ → Type 0 = λ w t. (w ≡ spell_text t) × Between low high (length t) in
    gives_bind (λ w n. (w ≡ n ∷ []) × Between low high n) S (gives_code low high) (λ n w h.
    gives_weaker (λ v t. (v ≡ t) × (length t ≡ n)) (λ v t. S (w ++ v) t) (λ v t k.
    (ap₂ (λ a b. a ++ b) h.0 k.0 ∙ ap (λ m. m ∷ t) (sym k.1), (omega (arith, h.1, k.1), omega (arith, h.1, k.1)))) (gives_bytes n))

-- LISTS OF ITEMS, each read knowing those before it

module _ {X : Type 0} (item : ℕ → List X → Reader X) (spell : X → List ℕ) (Good : List X → Type 0)
    (one : (i : ℕ) (xs : List X) → Good xs → Gives (item i xs) (λ w x. Good (xs ++ x ∷ []) × (w ≡ spell x))) where
  -- the items after xs, n of them
  pub record Added (xs : List X) (n : ℕ) (w : List ℕ) (ys : List X) : Type 0 where
    pub good : Good ys
    pub new : List X
    pub all : ys ≡ xs ++ new
    pub as_many : length new ≡ n
    pub spelled : w ≡ flat_map spell new

  gives_more : (n i : ℕ) (xs : List X) → Good xs → Gives (more item n i xs) (Added xs n)
  gives_more zero i xs g = gives_give (Added xs 0) xs (record { good = g; new = []; all = sym (append-nil xs); as_many = refl; spelled = refl })
  gives_more (suc n) i xs g =
      gives_bind (λ w x. Good (xs ++ x ∷ []) × (w ≡ spell x)) (Added xs (suc n)) (one i xs g) (λ x w h.
      gives_weaker (Added (xs ++ x ∷ []) n) (λ v ys. Added xs (suc n) (w ++ v) ys) (λ v ys a. record {
        good = a.good;
        new = x ∷ a.new;
        all = a.all ∙ append_assoc xs (x ∷ []) a.new;
        as_many = ap suc a.as_many;
        spelled = ap₂ (λ b c. b ++ c) h.1 a.spelled;
      }) (gives_more n (i + 1) (xs ++ x ∷ []) h.0))

  -- a count and as many items
  pub gives_list : (low high : ℕ) → Good [] → Gives (code low high >>= many item) (λ w ys. Good ys × Between low high (length ys) × (w ≡ spell_list spell ys))
  gives_list low high g =
      let S : List ℕ → List X → Type 0 = λ w ys. Good ys × Between low high (length ys) × (w ≡ spell_list spell ys) in
      gives_bind (λ w n. (w ≡ n ∷ []) × Between low high n) S (gives_code low high) (λ n w h.
      gives_weaker (Added [] n) (λ v ys. S (w ++ v) ys) (λ v ys a.
      let l : length ys ≡ n = ap length a.all ∙ a.as_many in (
        a.good,
        (omega (arith, l, h.1), omega (arith, l, h.1)),
        ap₂ (λ b c. b ++ c) h.0 (a.spelled ∙ ap (flat_map spell) (sym a.all)) ∙ ap (λ m. m ∷ flat_map spell ys) (sym l),
      ))
      (gives_more n 0 [] g))

-- WHOLE FILES

module _ {X : Type 0} (R : List ℕ → X → Type 0) where
  abbrev AcceptedAs : List ℕ → Result X Refusal → Type 0
  AcceptedAs bytes (Ok x) = R bytes x
  AcceptedAs bytes (Err e) = Unit {0}

  at_end : (bytes : List ℕ) (x : X) (p : ℕ) (rest w : List ℕ) → bytes ≡ w ++ rest → R w x → AcceptedAs bytes (outcome (end x p rest))
  at_end bytes x p [] w e h = subst (λ v. R v x) (sym (e ∙ append-nil w)) h
  at_end bytes x p (b ∷ rest) w e h = tt

  accepted_as : (bytes : List ℕ) (z : Reading X) → Taken R bytes z → AcceptedAs bytes (outcome (on z end))
  accepted_as bytes (got x p rest) h = at_end bytes x p rest h.0 h.1 h.2
  accepted_as bytes (refused e) h = tt

  pub accepted : (r : Reader X) → Gives r R → (bytes : List ℕ) (x : X) → file r bytes ≡ Ok x → R bytes x
  accepted r g bytes x e = subst (AcceptedAs bytes) e (accepted_as bytes (r 0 bytes) (g.gives 0 bytes))
