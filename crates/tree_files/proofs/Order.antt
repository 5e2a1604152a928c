-- The table of nodes in the order of their names: what a search in it finds, and a name more. Assumes nothing.
use Rattle.std.proofs.Common.{◌≡◌, ℕ, ◌+◌, ◌-◌, ◌<◌, ◌≤◌, Bool, true, false, ◌||◌, eqb, ◌⊎◌, List, [], ◌∷◌, ◌++◌, length, get_or, take, drop, Some, None, Ok, Err, Result, vec_items, Ordering, Less, Equal, Greater, sym, refl, ap, ◌∙◌, subst, ap₂, inl, inr, ⊎_elim, arith}
use Rattle.std.proofs.lemmas.List.Edits.{length-insert, get_or-insert_below, get_or-insert_at, get_or-insert_above}
use Rattle.std.proofs.lemmas.List.{get_or_default, length_push, get_or_push, get_or_append_left, take-append-drop, map_push}
use Rattle.std.proofs.lemmas.Bool.{cases_order, cases_lt, eq-eqb, or_left, or_right, or_cases}
use Rattle.std.specs.List.{insert}
use Rattle.std.specs.List.Sorted.{IsBinarySearchResult, IsSearchInRange, IsSortedBy}
use Rattle.std.specs.Result.{result_ok}
use Rattle.std.proofs.lemmas.List.Sorted.{searchable_from_sorted}
use Rattle.std.proofs.lemmas.Map.Text.{is_eq-slice_cmp}
use Rattle.std.proofs.lemmas.Slice.Eq.{bytes_eq-Decides}
use Rattle.std.specs.Cmp.{nat_cmp_total, tied_itself}
use Rattle.std.proofs.Math.Bool.{or_assoc}
use Rattle.std.specs.Cmp.Lexicographic.{lists_total}
use Rattle.std.specs.Ordering.{is_lt, is_eq, ordering_reverse, nat_cmp}
use Rattle.model.specs.Lists.{any}
use Rattle.model.specs.Spelling.{Between}
use Rattle.model.specs.Tree.{numbered}
use Rattle.model.specs.TreeFiles.{among}
use Rattle.tree_files.specs.Limited.{is_less, any_at, distinct_from, as_many}
use Rattle.tree_files.specs.Texts.{texts_in}
use Rattle.tree_files.specs.declared.names.Names.{Names}
use Rattle.wire.specs.declared.span.Span.{Span}
use Rattle.wire.specs.Told.{spanned}
use Rattle.tree_files.specs.Names.{texts_of, compared, name_at, Indexed, Parts, Stands, Placed, Fresh}
use Rattle.tree_files.proofs.Named.{among_yes, among_not, numbered_yes, numbered_not}

compared_equal : (s t : List ℕ) → compared s t ≡ Equal → s ≡ t
compared_equal s t h = (bytes_eq-Decides s t).0 (sym (is_eq-slice_cmp s t) ∙ ap is_eq h)

turned : (s t : List ℕ) (o : Ordering) → compared s t ≡ o → compared t s ≡ ordering_reverse o
turned s t o h = (lists_total nat_cmp_total).antisymm t s ∙ ap ordering_reverse h

module _ (texts : List (List ℕ)) (order : List ℕ) (x : Indexed texts order) (t : List ℕ) where
  abbrev at : ℕ → List ℕ
  at i = name_at texts order i

  abbrev named : ℕ → List ℕ
  named n = get_or texts n []

  up : IsSortedBy (λ m n. is_lt (compared (named m) (named n))) order
  up k d l h =
      let e : get_or order k d ≡ get_or order k 0 = get_or_default order k d 0 (omega arith) in
      let f : get_or order (k + 1) d ≡ get_or order (k + 1) 0 = get_or_default order (k + 1) d 0 h in
      let r = turned (at k) (at (k + 1)) Less (is_less _ (x.ascending k (k + 1) (omega arith, h))) in
      ap₂ (λ m n. is_lt (compared (named m) (named n))) f e ∙ ap is_lt r

  -- what the search found
  pub placed : (r : Result ℕ ℕ) → IsSearchInRange r (length order) → IsBinarySearchResult (λ n. compared (named n) t) order r → Placed texts order t r
  placed (Ok i) b h = record { high = b; here = compared_equal _ _ (h 0) }
  placed (Err i) b h =
      let p = h (searchable_from_sorted (lists_total nat_cmp_total) named order t up) in
      record { high = b; below = λ k l. p.0 k 0 (omega arith) l; above = λ k l m. p.1 k 0 l m }

  -- where the search ends without a find
  unequal : (o : Ordering) (s : List ℕ) → compared s t ≡ o → (o ≡ Equal → ⊥) → s ≡ t → ⊥
  unequal o s h f e = f (sym h ∙ ap (λ u. compared u t) e ∙ tied_itself (lists_total nat_cmp_total) t)

  module _ (i : ℕ) (p : Parts texts order t i) where
    nowhere : (k : ℕ) → k < length order → at k ≡ t → ⊥
    nowhere k h = ⊎_elim
        (λ l. unequal Less (at k) (p.below k l) (λ e. cc))
        (λ l. unequal Greater (at k) (p.above k l h) (λ e. cc))
        (cases_lt k i)

    no_node : (n : ℕ) → n < length texts → get_or texts n [] ≡ t → ⊥
    no_node n h e =
        let j = any_at n order (x.complete n h) in
        nowhere j.0 j.1 (ap (λ m. get_or texts m []) j.2 ∙ e)

    pub none_among : among texts t ≡ false
    none_among = among_not texts t no_node

    pub none_numbered : numbered 0 texts t ≡ None
    none_numbered = numbered_not 0 texts t no_node

  module _ (i : ℕ) (s : Stands texts order t i) where
    pub one_among : among texts t ≡ true
    one_among = among_yes texts t (get_or order i 0) (x.inside i s.high) s.here

    pub one_numbered : numbered 0 texts t ≡ Some (get_or order i 0)
    one_numbered =
        let n = get_or order i 0 in
        let low : n < length texts = x.inside i s.high in
        let z : 0 + n ≡ n = omega arith in
        numbered_yes 0 texts t n low s.here
        (λ m l e. let q = distinct_from texts order x.ascending x.complete m n (omega arith) low (e ∙ sym s.here) in omega arith) ∙ ap Some z

-- A NAME MORE

data Slot (i k : ℕ) : Type 0 where
  before : k < i → Slot i k
  here : k ≡ i → Slot i k
  after : (j : ℕ) → k ≡ j + 1 → i ≤ j → Slot i k

slot : (i k : ℕ) → Slot i k
slot i k = ⊎_elim here (⊎_elim before (λ l. after (k - 1) (omega arith) (omega arith))) (cases_order k i)

any_append : (p : ℕ → Bool) (xs ys : List ℕ) → any p (xs ++ ys) ≡ (any p xs || any p ys)
any_append p [] ys = refl
any_append p (x ∷ xs) ys = ap (λ b. p x || b) (any_append p xs ys) ∙ sym (or_assoc (p x) (any p xs) (any p ys))

any_inserted : (p : ℕ → Bool) (xs : List ℕ) (i y : ℕ) → (any p xs ≡ true) ⊎ (p y ≡ true) → any p (insert xs i y) ≡ true
any_inserted p xs i y (inl h) =
    any_append p (take i xs) (y ∷ drop i xs) ∙ ⊎_elim
    (λ e. or_left (any p (take i xs)) (p y || any p (drop i xs)) e)
    (λ e. or_right (any p (take i xs)) (p y || any p (drop i xs)) (or_right (p y) (any p (drop i xs)) e))
    (or_cases (any p (take i xs)) (any p (drop i xs)) (sym (any_append p (take i xs) (drop i xs)) ∙ ap (any p) (take-append-drop i xs) ∙ h))
any_inserted p xs i y (inr h) =
    any_append p (take i xs) (y ∷ drop i xs) ∙ or_right (any p (take i xs)) (p y || any p (drop i xs)) (or_left (p y) (any p (drop i xs)) h)

module _ (texts : List (List ℕ)) (order : List ℕ) (x : Indexed texts order) (t : List ℕ) (i : ℕ) (f : Fresh texts order t i) where
  abbrev n : ℕ
  n = length texts

  abbrev grown : List (List ℕ)
  grown = texts ++ t ∷ []

  abbrev next : List ℕ
  next = insert order i n

  long : length next ≡ length order + 1
  long = length-insert order i n f.parts.high

  node_before : (k : ℕ) → k < i → get_or next k 0 ≡ get_or order k 0
  node_before k l = get_or-insert_below order i n 0 k l f.parts.high

  node_here : get_or next i 0 ≡ n
  node_here = get_or-insert_at order i n 0 f.parts.high

  node_after : (k : ℕ) → i ≤ k → get_or next (k + 1) 0 ≡ get_or order k 0
  node_after k l = get_or-insert_above order i n 0 k l f.parts.high

  old_name : (k m : ℕ) → k < length order → m ≡ get_or order k 0 → get_or grown m [] ≡ name_at texts order k
  old_name k m h e = ap (λ j. get_or grown j []) e ∙ get_or_append_left texts (t ∷ []) [] (get_or order k 0) (x.inside k h)

  name_before : (k : ℕ) → k < i → name_at grown next k ≡ name_at texts order k
  name_before k l = old_name k (get_or next k 0) (omega (arith, f.parts.high)) (node_before k l)

  name_here : name_at grown next i ≡ t
  name_here = ap (λ j. get_or grown j []) node_here ∙ get_or_push texts t [] n refl

  name_after : (k : ℕ) → i ≤ k → k < length order → name_at grown next (k + 1) ≡ name_at texts order k
  name_after k l h = old_name k (get_or next (k + 1) 0) h (node_after k l)

  less_by : (a b s u : List ℕ) → a ≡ s → b ≡ u → is_lt (compared s u) ≡ true → is_lt (compared a b) ≡ true
  less_by a b s u p q h = ap₂ (λ v w. is_lt (compared v w)) p q ∙ h

  rising : (a b : ℕ) → a < b → b < length next → Slot i a → Slot i b → is_lt (compared (name_at grown next a) (name_at grown next b)) ≡ true
  rising a b l h (before p) (before q) = less_by _ _ _ _ (name_before a p) (name_before b q) (x.ascending a b (l, omega (arith, f.parts.high)))
  rising a b l h (before p) (here q) =
      less_by _ _ _ _ (name_before a p) (ap (name_at grown next) q ∙ name_here) (ap is_lt (f.parts.below a p))
  rising a b l h (before p) (after j q r) =
      let low : j < length order = omega (arith, long) in
      less_by _ _ _ _ (name_before a p) (ap (name_at grown next) q ∙ name_after j r low) (x.ascending a j (omega arith, low))
  rising a b l h (here p) (before q) = absurd (omega arith)
  rising a b l h (here p) (here q) = absurd (omega arith)
  rising a b l h (here p) (after j q r) =
      let low : j < length order = omega (arith, long) in
      less_by _ _ _ _ (ap (name_at grown next) p ∙ name_here) (ap (name_at grown next) q ∙ name_after j r low) (ap is_lt (turned (name_at texts order j) t Greater (f.parts.above j r low)))
  rising a b l h (after j p r) (before q) = absurd (omega arith)
  rising a b l h (after j p r) (here q) = absurd (omega arith)
  rising a b l h (after j p r) (after m q s) =
      let low : m < length order = omega (arith, long) in
      less_by _ _ _ _ (ap (name_at grown next) p ∙ name_after j r (omega arith)) (ap (name_at grown next) q ∙ name_after m s low) (x.ascending j m (omega arith, low))

  node_inside : (k : ℕ) → k < length next → Slot i k → get_or next k 0 < length grown
  node_inside k h (before l) = omega (arith, node_before k l, x.inside k (omega (arith, f.parts.high)), length_push texts t)
  node_inside k h (here e) = omega (arith, ap (λ j. get_or next j 0) e, node_here, length_push texts t)
  node_inside k h (after j e l) = omega (arith, ap (λ m. get_or next m 0) e, node_after j l, x.inside j (omega (arith, long)), length_push texts t)

  sized : (m : ℕ) → m < length grown → Between 1 64 (length (get_or grown m []))
  sized m h = ⊎_elim
      (λ l. subst (λ s. Between 1 64 (length s)) (sym (get_or_append_left texts (t ∷ []) [] m l)) (x.named m l))
      (λ l. let e : m ≡ n = omega (arith, length_push texts t) in subst (λ s. Between 1 64 (length s)) (sym (ap (λ j. get_or grown j []) e ∙ get_or_push texts t [] n refl)) f.sized)
      (cases_lt m n)

  every : (m : ℕ) → m < length grown → any (eqb m) next ≡ true
  every m h = any_inserted (eqb m) order i n (⊎_elim
      (λ l. inl (x.complete m l))
      (λ l. inr (eq-eqb m n (omega (arith, length_push texts t))))
      (cases_lt m n))

  pub indexed_more : Indexed grown next
  indexed_more = record {
    as_many = omega (arith, long, length_push texts t, x.as_many);
    named = sized;
    inside = λ k h. node_inside k h (slot i k);
    ascending = λ a b h. rising a b h.0 h.1 (slot i a) (slot i b);
    complete = every;
  }

-- AS THE CODE HAS IT

pub indexed : (n : Names) → Indexed (texts_in n) (vec_items n.order)
indexed n = record {
  as_many = sym n.order.ok.0 ∙ n.as_many ∙ as_many n;
  named = n.named;
  inside = n.inside;
  ascending = n.ascending;
  complete = n.complete;
}

pub stands_at : (texts : List (List ℕ)) (order t : List ℕ) (r : Result ℕ ℕ) (i : ℕ) → Placed texts order t r → Some i ≡ result_ok r → Stands texts order t i
stands_at texts order t (Ok j) i p e = let s : j ≡ i = cc in subst (Stands texts order t) s p
stands_at texts order t (Err j) i p e = cc

pub stands_nowhere : (n : Names) (t : List ℕ) (r : Result ℕ ℕ) → Placed (texts_in n) (vec_items n.order) t r → None ≡ result_ok r → None ≡ numbered 0 (texts_in n) t
stands_nowhere n t (Ok i) p e = cc
stands_nowhere n t (Err i) p e = sym (none_numbered (texts_in n) (vec_items n.order) (indexed n) t i p)

pub names_more : (bytes : List ℕ) (names : List Span) (order : List ℕ) (names' : List Span) (order' : List ℕ) (s : Span) (i num : ℕ)
    → Indexed (texts_of bytes names) order → Fresh (texts_of bytes names) order (spanned bytes s) i
    → names' ≡ names ++ s ∷ [] → order' ≡ insert order i num → num ≡ length (texts_of bytes names) → Indexed (texts_of bytes names') order'
names_more bytes names order names' order' s i num x f e o n =
    let texts = texts_of bytes names in
    subst (λ l. Indexed l order') (sym (ap (texts_of bytes) e ∙ map_push (spanned bytes) names s))
    (subst (λ l. Indexed (texts ++ spanned bytes s ∷ []) l) (sym (o ∙ ap (insert order i) n)) (indexed_more texts order x (spanned bytes s) i f))
