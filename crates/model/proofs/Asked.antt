-- What a resource element asks, as the relations Fault, Alone and Asks say. Assumes nothing.
use Rattle.std.proofs.Common.{◌≡◌, ℕ, suc, ◌+◌, ◌<◌, ◌≤◌, Bool, true, false, cond, not, eqb, List, [], ◌∷◌, length, Some, None, codes, Option, sym, refl, ap, ◌∙◌, subst, ⊎_elim, arith}
use mathlib.Core.List.{Memᴰ, head-eq_of_cons-eq, tail-eq_of_cons-eq, nil≢cons, cons≢nil}
use Rattle.std.proofs.lemmas.Bool.{eqb-true, eqb-false, eq-eqb, ne_eqb}
use Rattle.model.specs.declared.decision.Cause.{Cause}
use Rattle.model.specs.declared.decision.Cause.TheVariants.{BadScope}
use Rattle.model.specs.Content.{Attribute, Element}
use Rattle.model.specs.Values.{Same, same}
use Rattle.model.specs.Lists.{At}
use Rattle.model.specs.Tree.{Tree, count, numbered, node_named, Limits, Extent, children, descendants}
use Rattle.model.specs.Rows.{Scope, has_id, with_id, asked_at, asked, scope_by_attributes, scope, faulty, itself, below}
use Rattle.model.specs.Meaning.{Lacks, Only, Repeats, word, Scoped, NodeOf, Fault, Alone, Asks}
use Rattle.model.proofs.Members.{one_of, mem_keep, of_keep}
use Rattle.model.proofs.Positions.{at_nil, at_cases, at_mem, mem_at, at_below, at_get_d}
use Rattle.model.proofs.Values.{same_true, same_false, not_same}

-- HOW OFTEN AN ID STANDS

lacks_of : (i : ℕ) (xs : List Attribute) → with_id i xs ≡ [] → Lacks i xs
lacks_of i [] e = Lacks.nothing
lacks_of i (a ∷ xs) e = step (eqb a.id i) refl e (lacks_of i xs)
  where
    step : (b : Bool) → eqb a.id i ≡ b → cond b (a ∷ with_id i xs) (with_id i xs) ≡ [] → (with_id i xs ≡ [] → Lacks i xs) → Lacks i (a ∷ xs)
    step true q e f = absurd (cons≢nil e)
    step false q e f = Lacks.other (eqb-false a.id i q) (f e)

only_of : (i : ℕ) (a : Attribute) (xs : List Attribute) → with_id i xs ≡ a ∷ [] → Only i a xs
only_of i a [] e = absurd (nil≢cons e)
only_of i a (b ∷ xs) e = step (eqb b.id i) refl e (only_of i a xs)
  where
    step : (c : Bool) → eqb b.id i ≡ c → cond c (b ∷ with_id i xs) (with_id i xs) ≡ a ∷ [] → (with_id i xs ≡ a ∷ [] → Only i a xs)
        → Only i a (b ∷ xs)
    step true q e f = subst (λ z. Only i z (b ∷ xs)) (head-eq_of_cons-eq e) (Only.here (eqb-true b.id i q) (lacks_of i xs (tail-eq_of_cons-eq e)))
    step false q e f = Only.further (eqb-false b.id i q) (f e)

repeats_later : (i : ℕ) (a : Attribute) (xs : List Attribute) → Repeats i xs → Repeats i (a ∷ xs)
repeats_later i a xs (Repeats.twice l p q e f) = Repeats.twice (omega arith) (At.later p) (At.later q) e f

repeats_of : (i : ℕ) (a b : Attribute) (more xs : List Attribute) → with_id i xs ≡ a ∷ b ∷ more → Repeats i xs
repeats_of i a b more [] e = absurd (nil≢cons e)
repeats_of i a b more (c ∷ xs) e = step (eqb c.id i) refl e (repeats_of i a b more xs)
  where
    step : (d : Bool) → eqb c.id i ≡ d → cond d (c ∷ with_id i xs) (with_id i xs) ≡ a ∷ b ∷ more → (with_id i xs ≡ a ∷ b ∷ more → Repeats i xs)
        → Repeats i (c ∷ xs)
    step true q e f =
        let m = of_keep (has_id i) b xs (subst (λ (l : List Attribute). Memᴰ b l) (sym (tail-eq_of_cons-eq e)) (Memᴰ.head refl)) in
        let n = mem_at b xs m.0 in
        Repeats.twice (omega arith) At.first (At.later n.1) (eqb-true c.id i q) (eqb-true b.id i m.1)
    step false q e f = repeats_later i c xs (f e)

lacks_is : (i : ℕ) {xs : List Attribute} → Lacks i xs → with_id i xs ≡ []
lacks_is i Lacks.nothing = refl
lacks_is i (Lacks.other {a} n l) = rw (ne_eqb a.id i n) (lacks_is i l)

only_is : (i : ℕ) (a : Attribute) {xs : List Attribute} → Only i a xs → with_id i xs ≡ a ∷ []
only_is i a (Only.here {xs} e l) = rw (eq-eqb a.id i e) (ap (λ (t : List Attribute). a ∷ t) (lacks_is i l))
only_is i a (Only.further {b} n o) = rw (ne_eqb b.id i n) (only_is i a o)

two_of : (i m n : ℕ) (a b : Attribute) {xs : List Attribute} → m < n → At m a xs → At n b xs → a.id ≡ i → b.id ≡ i → 2 ≤ length (with_id i xs)
two_of i m n a b l At.first (At.later {xs} q) e f =
    rw (eq-eqb a.id i e) (omega (arith, one_of b (with_id i xs) (mem_keep (has_id i) b xs (at_mem q) (eq-eqb b.id i f))))
two_of i m n a b l At.first At.first e f = absurd (omega arith)
two_of i m n a b l (At.later p) At.first e f = absurd (omega arith)
two_of i m n a b l (At.later {y = c} {xs} {n = j} p) (At.later {n = k} q) e f = step (eqb c.id i) (two_of i j k a b (omega arith) p q e f)
  where
    step : (d : Bool) → 2 ≤ length (with_id i xs) → 2 ≤ length (cond d (c ∷ with_id i xs) (with_id i xs))
    step true h = omega arith
    step false h = h

two_long : {A : Type 0} (xs : List A) → 2 ≤ length xs → (a : A) × ((b : A) × ((more : List A) × (xs ≡ a ∷ b ∷ more)))
two_long [] h = absurd (omega arith)
two_long (a ∷ []) h = absurd (omega arith)
two_long (a ∷ b ∷ more) h = (a, (b, (more, refl)))

repeats_is : (i : ℕ) (xs : List Attribute) → Repeats i xs
    → (a : Attribute) × ((b : Attribute) × ((more : List Attribute) × (with_id i xs ≡ a ∷ b ∷ more)))
repeats_is i xs (Repeats.twice {m} {n} {a} {b} l p q e f) = two_long (with_id i xs) (two_of i m n a b l p q e f)

-- THE NODE OF A NAME

-- what a search of names from number i on has found
abbrev NamedFrom : ℕ → List (List ℕ) → List ℕ → Option ℕ → Type 0
NamedFrom i names t None = (n : ℕ) (x : List ℕ) → At n x names → Same x t → ⊥
NamedFrom i names t (Some n) = (k : ℕ) × ((x : List ℕ) × (n ≡ i + k) × At k x names × Same x t)

named_later : (i : ℕ) (x : List ℕ) (xs : List (List ℕ)) (t : List ℕ) (o : Option ℕ) → (Same x t → ⊥) → NamedFrom (i + 1) xs t o
    → NamedFrom i (x ∷ xs) t o
named_later i x xs t None f h = λ n y a s. ⊎_elim (λ q. f (subst (λ z. Same z t) q.1 s)) (λ q. h q.0 y q.2 s) (at_cases a)
named_later i x xs t (Some n) f h = (suc h.0, (h.1.0, omega (arith, h.1.1), At.later h.1.2, h.1.3))

numbered_means : (i : ℕ) (names : List (List ℕ)) (t : List ℕ) → NamedFrom i names t (numbered i names t)
numbered_means i [] t = λ n x a s. at_nil a
numbered_means i (x ∷ xs) t = step (same x t) refl (numbered_means (i + 1) xs t)
  where
    step : (b : Bool) → same x t ≡ b → NamedFrom (i + 1) xs t (numbered (i + 1) xs t)
        → NamedFrom i (x ∷ xs) t (cond b (Some i) (numbered (i + 1) xs t))
    step true q h = (0, (x, omega arith, At.first, same_true x t q))
    step false q h = named_later i x xs t (numbered (i + 1) xs t) (same_false x t q) h

module _ (tree : Tree) where
  named_none : (t : List ℕ) → node_named tree t ≡ None → (n : ℕ) → NodeOf tree t n → ⊥
  named_none t e n v = subst (NamedFrom 0 tree.names t) e (numbered_means 0 tree.names t) n v.name v.at v.same

  named_some : (t : List ℕ) (n : ℕ) → node_named tree t ≡ Some n → NodeOf tree t n
  named_some t n e =
      let h = subst (NamedFrom 0 tree.names t) e (numbered_means 0 tree.names t) in
      record { name = h.1.0; at = subst (λ k. At k h.1.0 tree.names) {x = h.0} {y = n} (omega (arith, h.1.1)) h.1.2; same = h.1.3 }

  named_is : Limits tree → (t : List ℕ) (n : ℕ) → NodeOf tree t n → node_named tree t ≡ Some n
  named_is limits t n a = step (node_named tree t) refl
    where
      step : (o : Option ℕ) → node_named tree t ≡ o → o ≡ Some n
      step None e = absurd (named_none t e n a)
      step (Some m) e =
          let b = named_some t m e in
          let both = at_get_d [] b.at ∙ (b.same ∙ (sym a.same ∙ sym (at_get_d [] a.at))) in
          ap {B = Option ℕ} Some (limits.distinct m n (at_below b.at) (at_below a.at) both)

  none_named : (t : List ℕ) → ((n : ℕ) → NodeOf tree t n → ⊥) → node_named tree t ≡ None
  none_named t f = step (node_named tree t) refl
    where
      step : (o : Option ℕ) → node_named tree t ≡ o → o ≡ None
      step None e = refl
      step (Some m) e = absurd (f m (named_some t m e))

-- WHAT IS ASKED

abbrev pub Means : Tree → Element → Scope → Type 0
Means tree e (faulty c) = Fault tree e c
Means tree e itself = Alone e
Means tree e (below x a) = Asks tree e x a

module _ (tree : Tree) (e : Element) where
  abbrev ids : List Attribute
  ids = with_id 1 e.attributes

  asked_means : (x : Extent) → Scoped e x → (as_asked : List Attribute) → ids ≡ as_asked → Means tree e (asked tree x as_asked)
  asked_means x k [] q = Fault.no_resource_id k (lacks_of 1 e.attributes q)
  asked_means x k (a ∷ []) q = step (node_named tree a.value) refl
    where
      step : (n : Option ℕ) → node_named tree a.value ≡ n → Means tree e (asked_at x n)
      step None h = Fault.no_such_node k (only_of 1 a e.attributes q) (named_none tree a.value h)
      step (Some n) h = Asks.asks k (only_of 1 a e.attributes q) (named_some tree a.value n h)
  asked_means x k (a ∷ b ∷ more) q = Fault.several_resource_ids k (repeats_of 1 a b more e.attributes q)

  no_word : (v : List ℕ) → (Same v (codes "Children") → ⊥) → (Same v (codes "Descendants") → ⊥) → (x : Extent) → Same v (word x) → ⊥
  no_word v f g children s = f s
  no_word v f g descendants s = g s

  scoped : (s : Attribute) (x : Extent) → Only 2 s e.attributes → eqb s.type 1 ≡ true → same s.value (word x) ≡ true → Scoped e x
  scoped s x o t v = record { scope = s; only = o; string = eqb-true s.type 1 t; value = same_true s.value (word x) v }

  one_means : (s : Attribute) → Only 2 s e.attributes → (a b c d : Bool) → eqb s.type 1 ≡ a → same s.value (codes "Immediate") ≡ b
      → same s.value (codes "Children") ≡ c → same s.value (codes "Descendants") ≡ d
      → Means tree e (cond (not a) (faulty BadScope)
      (cond b itself (cond c (asked tree children ids) (cond d (asked tree descendants ids) (faulty BadScope)))))
  one_means s o false b c d p q u v = Fault.not_a_string o (eqb-false s.type 1 p)
  one_means s o true true c d p q u v = Alone.immediate o (eqb-true s.type 1 p) (same_true s.value (codes "Immediate") q)
  one_means s o true false true d p q u v = asked_means children (scoped s children o p u) ids refl
  one_means s o true false false true p q u v = asked_means descendants (scoped s descendants o p v) ids refl
  one_means s o true false false false p q u v =
      Fault.no_such_scope o (same_false s.value (codes "Immediate") q)
      (no_word s.value (same_false s.value (codes "Children") u) (same_false s.value (codes "Descendants") v))

  scopes_mean : (scopes : List Attribute) → with_id 2 e.attributes ≡ scopes → Means tree e (scope_by_attributes tree ids scopes)
  scopes_mean [] q = Alone.no_scope (lacks_of 2 e.attributes q)
  scopes_mean (s ∷ []) q =
      one_means s (only_of 2 s e.attributes q)
      (eqb s.type 1) (same s.value (codes "Immediate")) (same s.value (codes "Children")) (same s.value (codes "Descendants"))
      refl refl refl refl
  scopes_mean (s ∷ t ∷ more) q = Fault.several_scopes (repeats_of 2 s t more e.attributes q)

  pub scope_means : (k : Scope) → scope tree e ≡ k → Means tree e k
  scope_means k q = subst (Means tree e) q (scopes_mean (with_id 2 e.attributes) refl)

  asks_node : (x : Extent) (a : ℕ) → Asks tree e x a → a < count tree
  asks_node x a (Asks.asks k o n) = at_below n.at

  -- an asked node is one of the tree's
  pub asked_node : (x : Extent) (a : ℕ) → scope tree e ≡ below x a → a < count tree
  asked_node x a q = asks_node x a (scope_means (below x a) q)

  -- and back
  abbrev scope_by : Attribute → Scope
  scope_by s = scope_by_attributes tree ids (s ∷ [])

  one_is : (s : Attribute) → Only 2 s e.attributes → scope tree e ≡ scope_by s
  one_is s o = ap (scope_by_attributes tree ids) (only_is 2 s o)

  word_is : (s : Attribute) (x : Extent) → s.type ≡ 1 → Same s.value (word x) → scope_by s ≡ asked tree x ids
  word_is s children t v = rw (eq-eqb s.type 1 t, v)
  word_is s descendants t v = rw (eq-eqb s.type 1 t, v)

  asked_is : (x : Extent) → Scoped e x → scope tree e ≡ asked tree x ids
  asked_is x k = one_is k.scope k.only ∙ word_is k.scope x k.string k.value

  neither : (s : Attribute) → (b : Bool) → eqb s.type 1 ≡ b → (Same s.value (codes "Immediate") → ⊥)
      → ((x : Extent) → Same s.value (word x) → ⊥) → scope_by s ≡ faulty BadScope
  neither s false p f g = rw p
  neither s true p f g = rw (
    p,
    not_same s.value (codes "Immediate") f,
    not_same s.value (codes "Children") (g children),
    not_same s.value (codes "Descendants") (g descendants),
  )

  pub fault_is : (c : Cause) → Fault tree e c → scope tree e ≡ faulty c
  fault_is c (Fault.several_scopes r) = let t = repeats_is 2 e.attributes r in ap (scope_by_attributes tree ids) t.1.1.1
  fault_is c (Fault.not_a_string {s} o n) = one_is s o ∙ rw (ne_eqb s.type 1 n)
  fault_is c (Fault.no_such_scope {s} o f g) = one_is s o ∙ neither s (eqb s.type 1) refl f g
  fault_is c (Fault.no_resource_id {x} k l) = asked_is x k ∙ ap (asked tree x) (lacks_is 1 l)
  fault_is c (Fault.several_resource_ids {x} k r) = let u = repeats_is 1 e.attributes r in asked_is x k ∙ ap (asked tree x) u.1.1.1
  fault_is c (Fault.no_such_node {x} {a} k p f) = asked_is x k ∙ (ap (asked tree x) (only_is 1 a p) ∙ ap (asked_at x) (none_named tree a.value f))

  pub alone_is : Alone e → scope tree e ≡ itself
  alone_is (Alone.no_scope l) = ap (scope_by_attributes tree ids) (lacks_is 2 l)
  alone_is (Alone.immediate {s} o t v) = one_is s o ∙ rw (eq-eqb s.type 1 t, v)

  pub asks_is : Limits tree → (x : Extent) (n : ℕ) → Asks tree e x n → scope tree e ≡ below x n
  asks_is limits x n (Asks.asks {x = y} {a} {n = m} k p v) =
      asked_is y k ∙ (ap (asked tree y) (only_is 1 a p) ∙ ap (asked_at y) (named_is tree limits a.value m v))
