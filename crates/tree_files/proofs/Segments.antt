-- Paths: a path's parent, and the links that are found from it. Assumes nothing.
use Rattle.std.proofs.Common.{◌≡◌, ℕ, zero, suc, ◌+◌, ◌-◌, ◌<◌, ◌≤◌, Bool, true, false, ◌&&◌, ◌||◌, eqb, ltb, List, [], ◌∷◌, ◌++◌, length, get_or, take, drop, cond, Some, None, Option, sym, refl, ap, ◌∙◌, subst, ⊎_elim, arith}
use mathlib.Core.List.Memᴰ
use mathlib.Core.List.{Memᴰ}
use Rattle.std.proofs.lemmas.List.{length-append, length-drop, get_or-drop, get_or-append_right, take_at, drop_more, take-append-drop}
use Rattle.std.proofs.lemmas.Bool.{and_parts, and_from, and_left, and_right, eqb-true, eq-eqb, ne_eqb, lt-ltb, le-ltb, ltb-true, cases_lt, cases_eq, cases_order, cases_Bool, both_ways}
use Rattle.std.specs.List.{list_any, slice_split, onto_first}
use Rattle.model.specs.Tree.{numbered}
use Rattle.model.specs.TreeFiles.{separator, child_path, linked_by_path, has_link, hollow}
use Rattle.tree_files.specs.Limited.{distinct_from}
use Rattle.tree_files.specs.Names.{Indexed}
use Rattle.tree_files.specs.Segmented.{segment_of, child_from}
use Rattle.tree_files.specs.Segments.{ChildOf, LastSeparator, Parent, ParentNode, LinkedBelow}
use Rattle.std.specs.Cmp.{both_ways as same_answer}
use Rattle.std.proofs.Math.Bool.{or_assoc, or-false}
use Rattle.tree_files.proofs.Named.{same_yes}
use Rattle.model.proofs.Values.{same_true}

-- EMPTY SEGMENTS

abbrev any_empty : List (List ℕ) → Bool
any_empty parts = list_any (λ part. eqb (length part) 0) parts

abbrev after_first : List (List ℕ) → List (List ℕ)
after_first [] = []
after_first (part ∷ parts) = parts

onto_none : (b : ℕ) (parts : List (List ℕ)) → any_empty (onto_first b parts) ≡ any_empty (after_first parts)
onto_none b [] = ap (λ e. e || false) (ne_eqb (length (b ∷ [])) 0 (λ e. omega arith))
onto_none b (part ∷ parts) = ap (λ e. e || any_empty parts) (ne_eqb (length (b ∷ part)) 0 (λ e. omega arith))

onto_after : (b : ℕ) (parts : List (List ℕ)) → after_first (onto_first b parts) ≡ after_first parts
onto_after b [] = refl
onto_after b (part ∷ parts) = refl

hollow_step : (b : ℕ) (e : Bool) (parts : List (List ℕ)) (x y : Bool) → (any_empty parts ≡ x) × (any_empty (after_first parts) ≡ y)
    → (any_empty (cond e ([] ∷ parts) (onto_first b parts)) ≡ cond e (true || x) y) × (any_empty (after_first (cond e ([] ∷ parts) (onto_first b parts))) ≡ cond e (false || x) y)
hollow_step b true parts x y h = (refl, h.0)
hollow_step b false parts x y h = (onto_none b parts ∙ h.1, ap any_empty (onto_after b parts) ∙ h.1)

abbrev parts_of : List ℕ → List (List ℕ)
parts_of path = slice_split (λ b. eqb b separator) path

hollow_parts : (bs : List ℕ) → (any_empty (parts_of bs) ≡ hollow true bs) × (any_empty (after_first (parts_of bs)) ≡ hollow false bs)
hollow_parts [] = (refl, refl)
hollow_parts (b ∷ bs) = hollow_step b (eqb b separator) (parts_of bs) (hollow true bs) (hollow false bs) (hollow_parts bs)

pub hollow_split : (path : List ℕ) → list_any (λ part. eqb (length part) 0) (slice_split (λ b. eqb b separator) path) ≡ hollow true path
hollow_split path = (hollow_parts path).0

-- THE LAST SEPARATOR

mem_at : (xs : List ℕ) → Memᴰ separator xs → (i : ℕ) × (i < length xs) × (get_or xs i 0 ≡ separator)
mem_at [] m = absurd (Memᴰ.not-nil m)
mem_at (x ∷ xs) m = ⊎_elim
    (λ e. (0, omega arith, sym e))
    (λ t. let r = mem_at xs t in (suc r.0, omega (arith, r.1), r.2))
    (Memᴰ.cases_cons m)

at_mem : (xs : List ℕ) (i : ℕ) → i < length xs → get_or xs i 0 ≡ separator → Memᴰ separator xs
at_mem [] i h e = absurd (omega arith)
at_mem (x ∷ xs) zero h e = Memᴰ.head (sym e)
at_mem (x ∷ xs) (suc i) h e = Memᴰ.tail (at_mem xs i (omega arith) e)

-- where a child's own separator stands
module _ (p c : List ℕ) (r : ChildOf p c) where
  long : length c ≡ length p + suc (length r.segment)
  long = ap length r.named ∙ length-append p (separator ∷ r.segment)

  there : get_or c (length p) 0 ≡ separator
  there =
      let z : length p - length p ≡ 0 = omega arith in
      ap (λ l. get_or l (length p) 0) r.named ∙ get_or-append_right p (separator ∷ r.segment) (length p) (length p) 0 refl (omega arith) ∙ ap (λ k. get_or (separator ∷ r.segment) k 0) z

  none_after : (k : ℕ) → length p < k → k < length c → get_or c k 0 ≡ separator → ⊥
  none_after k l h e =
      let s : k - length p ≡ suc (k - length p - 1) = omega arith in
      let here : get_or c k 0 ≡ get_or r.segment (k - length p - 1) 0 =
      ap (λ l. get_or l k 0) r.named ∙ get_or-append_right p (separator ∷ r.segment) (length p) k 0 refl (omega arith) ∙ ap (λ j. get_or (separator ∷ r.segment) j 0) s in
      r.plain (at_mem r.segment (k - length p - 1) (omega (arith, long)) (sym here ∙ e))

pub no_separator : (c : List ℕ) → LastSeparator c (length c) None → Parent c None
no_separator c none p h =
    let r = segment_of p c h in
    none (length p) (omega (arith, long p c r)) (there p c r)

module _ (c : List ℕ) (i : ℕ) (l : LastSeparator c (length c) (Some i)) where
  same_place : (p : List ℕ) → ChildOf p c → length p ≡ i
  same_place p r = ⊎_elim (λ e. e)
      (⊎_elim (λ h. absurd (none_after p c r i h l.0 l.1)) (λ h. absurd (l.2 (length p) h (omega (arith, long p c r)) (there p c r))))
      (cases_order (length p) i)

  pub last_empty : length c ≤ i + 1 → Parent c None
  last_empty h p t = let r = segment_of p c t in omega (arith, same_place p r, long p c r, r.some)

  split : c ≡ take i c ++ separator ∷ drop (i + 1) c
  split = sym (take-append-drop i c) ∙ ap (λ x. take i c ++ x) (drop_more c i 0 l.0 ∙ ap (λ (b : ℕ). b ∷ drop (i + 1) c) l.1)

  plain_after : Memᴰ separator (drop (i + 1) c) → ⊥
  plain_after m =
      let r = mem_at (drop (i + 1) c) m in
      l.2 (i + 1 + r.0) (omega arith) (omega (arith, r.1, length-drop (i + 1) c)) (sym (get_or-drop (i + 1) c r.0 0) ∙ r.2)

  pub last_parent : i + 1 < length c → Parent c (Some (take i c))
  last_parent h = (
    child_from (take i c) c (record { segment = drop (i + 1) c; named = split; some = omega (arith, length-drop (i + 1) c); plain = plain_after }),
    λ p t. let r = segment_of p c t in sym (ap (take i) r.named ∙ take_at p (separator ∷ r.segment) i (same_place p r)),
  )

-- THE PARENT'S NODE

numbered_some : (k : ℕ) (texts : List (List ℕ)) (t : List ℕ) (m : ℕ) → Some m ≡ numbered k texts t → (n : ℕ) × (m ≡ k + n) × (n < length texts) × (get_or texts n [] ≡ t)
numbered_some k [] t m e = cc
numbered_some k (x ∷ xs) t m e = go (Rattle.model.specs.Values.same x t) refl e (numbered_some (k + 1) xs t m)
  where
    go : (b : Bool) → Rattle.model.specs.Values.same x t ≡ b → Some m ≡ mathlib.Core.Bool.cond b (Some k) (numbered (k + 1) xs t)
        → (Some m ≡ numbered (k + 1) xs t → (n : ℕ) × (m ≡ k + 1 + n) × (n < length xs) × (get_or xs n [] ≡ t))
        → (n : ℕ) × (m ≡ k + n) × (n < length (x ∷ xs)) × (get_or (x ∷ xs) n [] ≡ t)
    go true s e rest = let q : m ≡ k = cc in (0, omega arith, omega arith, same_true x t s)
    go false s e rest = let r = rest e in (suc r.0, omega (arith, r.1), omega (arith, r.2), r.3)

numbered_none : (k : ℕ) (texts : List (List ℕ)) (t : List ℕ) → None ≡ numbered k texts t → (n : ℕ) → n < length texts → get_or texts n [] ≡ t → ⊥
numbered_none k [] t e n h q = omega arith
numbered_none k (x ∷ xs) t e n h q = go (Rattle.model.specs.Values.same x t) refl e (numbered_none (k + 1) xs t) n h q
  where
    go : (b : Bool) → Rattle.model.specs.Values.same x t ≡ b → None ≡ mathlib.Core.Bool.cond b (Some k) (numbered (k + 1) xs t)
        → (None ≡ numbered (k + 1) xs t → (n : ℕ) → n < length xs → get_or xs n [] ≡ t → ⊥)
        → (n : ℕ) → n < length (x ∷ xs) → get_or (x ∷ xs) n [] ≡ t → ⊥
    go true s e rest n h q = cc
    go false s e rest zero h q = both_ways (Rattle.model.specs.Values.same x t) s (same_yes x t q)
    go false s e rest (suc n) h q = rest e n (omega arith) q

pub node_of_parent : (texts : List (List ℕ)) (order : List ℕ) → Indexed texts order → (path q : List ℕ) → Parent path (Some q) → (r : Option ℕ) → r ≡ numbered 0 texts q → ParentNode texts path r
node_of_parent texts order x path q h None e = λ p l t. numbered_none 0 texts q e p l (h.1 (get_or texts p []) t)
node_of_parent texts order x path q h (Some m) e =
    let r = numbered_some 0 texts q m e in
    let s : m ≡ r.0 = omega (arith, r.1) in
    let low : m < length texts = omega (arith, r.2) in
    let name : get_or texts m [] ≡ q = ap (λ j. get_or texts j []) s ∙ r.3 in (
      low,
      subst (λ u. child_path u path ≡ true) (sym name) h.0,
      λ p l t. distinct_from texts order x.ascending x.complete p m l low (h.1 (get_or texts p []) t ∙ sym name),
    )

-- THE LINKS

has_push : (ls : List (ℕ × ℕ)) (n i p c : ℕ) → has_link (ls ++ (n, i) ∷ []) p c ≡ (has_link ls p c || (eqb n p && eqb i c))
has_push [] n i p c = or-false (eqb n p && eqb i c)
has_push (l ∷ ls) n i p c = ap (λ b. (eqb l.0 p && eqb l.1 c) || b) (has_push ls n i p c) ∙ sym (or_assoc (eqb l.0 p && eqb l.1 c) (has_link ls p c) (eqb n p && eqb i c))

module _ (texts : List (List ℕ)) (links : List (ℕ × ℕ)) (i : ℕ) (low : i < length texts) (so_far : LinkedBelow texts links i) where
  abbrev by_path : ℕ → ℕ → Bool
  by_path p c = linked_by_path texts p c

  -- as before, for another child
  other : (p c : ℕ) → (c ≡ i → ⊥) → has_link links p c ≡ (ltb c (i + 1) && by_path p c)
  other p c ne = so_far p c ∙ ap (λ b. b && by_path p c) (⊎_elim (λ h. lt-ltb c i h ∙ sym (lt-ltb c (i + 1) (omega arith))) (λ h. le-ltb c i h ∙ sym (le-ltb c (i + 1) (omega arith))) (cases_lt c i))

  here_not : (p : ℕ) → has_link links p i ≡ false
  here_not p = so_far p i ∙ and_left (ltb i i) (by_path p i) (le-ltb i i (omega arith))

  here_now : (p : ℕ) → (ltb i (i + 1) && by_path p i) ≡ by_path p i
  here_now p = ap (λ b. b && by_path p i) (lt-ltb i (i + 1) (omega arith))

  path_parts : (p : ℕ) → by_path p i ≡ true → (p < length texts) × (child_path (get_or texts p []) (get_or texts i []) ≡ true)
  path_parts p h =
      let u = and_parts (ltb p (length texts) && ltb i (length texts)) (child_path (get_or texts p []) (get_or texts i [])) h in
      (ltb-true p (length texts) (and_parts (ltb p (length texts)) (ltb i (length texts)) u.0).0, u.1)

  path_from : (p : ℕ) → p < length texts → child_path (get_or texts p []) (get_or texts i []) ≡ true → by_path p i ≡ true
  path_from p h t = and_from (ltb p (length texts) && ltb i (length texts)) (child_path (get_or texts p []) (get_or texts i [])) (and_from (ltb p (length texts)) (ltb i (length texts)) (lt-ltb p (length texts) h) (lt-ltb i (length texts) low)) t

  pub no_link : ParentNode texts (get_or texts i []) None → LinkedBelow texts links (i + 1)
  no_link none p c = ⊎_elim here (other p c) (cases_eq c i)
    where
      here : c ≡ i → has_link links p c ≡ (ltb c (i + 1) && by_path p c)
      here e = subst (λ j. has_link links p j ≡ (ltb j (i + 1) && by_path p j)) (sym e)
          (here_not p ∙ sym (here_now p ∙ ⊎_elim (λ t. let u = path_parts p t in absurd (none p u.0 u.1)) (λ t. t) (cases_Bool (by_path p i))))

  pub one_link : (n : ℕ) → ParentNode texts (get_or texts i []) (Some n) → LinkedBelow texts (links ++ (n, i) ∷ []) (i + 1)
  one_link n one p c = has_push links n i p c ∙ ⊎_elim here there (cases_eq c i)
    where
      there : (c ≡ i → ⊥) → (has_link links p c || (eqb n p && eqb i c)) ≡ (ltb c (i + 1) && by_path p c)
      there ne = ap (λ b. has_link links p c || b) (and_right (eqb n p) (eqb i c) (ne_eqb i c (λ e. ne (sym e)))) ∙ or-false (has_link links p c) ∙ other p c ne

      at_i : (has_link links p i || (eqb n p && eqb i i)) ≡ (ltb i (i + 1) && by_path p i)
      at_i =
          ap (λ b. b || (eqb n p && eqb i i)) (here_not p)
          ∙ same_answer (eqb n p && eqb i i) (by_path p i)
          (λ t. let e = eqb-true n p (and_parts (eqb n p) (eqb i i) t).0 in subst (λ j. by_path j i ≡ true) e (path_from n one.0 one.1))
          (λ t. let u = path_parts p t in and_from (eqb n p) (eqb i i) (eq-eqb n p (sym (one.2 p u.0 u.1))) (eq-eqb i i refl))
          ∙ sym (here_now p)

      here : c ≡ i → (has_link links p c || (eqb n p && eqb i c)) ≡ (ltb c (i + 1) && by_path p c)
      here e = subst (λ j. (has_link links p j || (eqb n p && eqb i j)) ≡ (ltb j (i + 1) && by_path p j)) (sym e) at_i
