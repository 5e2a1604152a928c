-- Path trees are linked by segments. Assumes nothing.
use Rattle.std.specs.Prelude.{◌≡◌, ℕ, ◌≤◌, true, false, not, ◌&&◌, ◌||◌, List, [], ◌∷◌, ◌++◌, length, Ok, refl}
use Rattle.std.proofs.Common.{eqb, ltb, get_or, sym, ap, subst, ap₂, ⊎_elim, arith}
use mathlib.Core.List.Memᴰ
use mathlib.Core.List.{Memᴰ}
use Rattle.std.proofs.lemmas.Bool.{and_parts, and_from, or_left, or_right, or_from, eqb-true, eq-eqb, eqb-false, ne_eqb, not-true, not_from_false, lt-ltb, ltb-true, cases_lt, cases_Bool, both_ways, false≢true}
use Rattle.model.specs.Lists.{any}
use Rattle.model.specs.Layout.{Reading, got, refused, on, end, outcome}
use Rattle.model.specs.Tree.{Tree}
use Rattle.model.specs.TreeFiles.{separator, child_path, path_tree, name_list, hollow, read_path_tree}
use Rattle.tree_files.specs.Segments.{ChildOf, BySegments}

any_mem : (xs : List ℕ) → any (eqb separator) xs ≡ false → Memᴰ separator xs → ⊥
any_mem [] h m = Memᴰ.not-nil m
any_mem (x ∷ xs) h m = ⊎_elim
    (λ e. both_ways (eqb separator x || any (eqb separator) xs) h (or_left (eqb separator x) (any (eqb separator) xs) (eq-eqb separator x e)))
    (λ t. any_mem xs (⊎_elim (λ e. absurd (both_ways (eqb separator x || any (eqb separator) xs) h (or_right (eqb separator x) (any (eqb separator) xs) e))) (λ e. e) (cases_Bool (any (eqb separator) xs))) t)
    (Memᴰ.cases_cons m)

mem_any : (xs : List ℕ) → (Memᴰ separator xs → ⊥) → any (eqb separator) xs ≡ false
mem_any [] f = refl
mem_any (x ∷ xs) f = or_from (eqb separator x) (any (eqb separator) xs) (ne_eqb separator x (λ e. f (Memᴰ.head e))) (mem_any xs (λ m. f (Memᴰ.tail m)))

-- THE TEST AND THE SEGMENT

pub segment_of : (p c : List ℕ) → child_path p c ≡ true → ChildOf p c
segment_of [] [] h = absurd (false≢true h)
segment_of [] (b ∷ bs) h =
    let u = and_parts (eqb b separator && not (any (eqb separator) bs)) (not (eqb (length bs) 0)) h in
    let v = and_parts (eqb b separator) (not (any (eqb separator) bs)) u.0 in
    let z = eqb-false (length bs) 0 (not-true (eqb (length bs) 0) u.1) in
    record {
      segment = bs;
      named = ap (λ (x : ℕ). x ∷ bs) (eqb-true b separator v.0);
      some = ⊎_elim (λ l. l) (λ l. absurd (z (omega arith))) (cases_lt 0 (length bs));
      plain = any_mem bs (not-true (any (eqb separator) bs) v.1);
    }
segment_of (x ∷ xs) [] h = absurd (false≢true h)
segment_of (x ∷ xs) (y ∷ ys) h =
    let u = and_parts (eqb x y) (child_path xs ys) h in
    let r = segment_of xs ys u.1 in
    record { segment = r.segment; named = ap₂ (λ (a : ℕ) (l : List ℕ). a ∷ l) (sym (eqb-true x y u.0)) r.named; some = r.some; plain = r.plain }

made_of : (p s : List ℕ) → 1 ≤ length s → (Memᴰ separator s → ⊥) → child_path p (p ++ separator ∷ s) ≡ true
made_of [] s h f =
    and_from (eqb separator separator && not (any (eqb separator) s)) (not (eqb (length s) 0))
    (and_from (eqb separator separator) (not (any (eqb separator) s)) refl (not_from_false (any (eqb separator) s) (mem_any s f)))
    (not_from_false (eqb (length s) 0) (ne_eqb (length s) 0 (λ e. omega arith)))
made_of (x ∷ xs) s h f = and_from (eqb x x) (child_path xs (xs ++ separator ∷ s)) (eq-eqb x x refl) (made_of xs s h f)

pub child_from : (p c : List ℕ) → ChildOf p c → child_path p c ≡ true
child_from p c r = subst (λ l. child_path p l ≡ true) (sym r.named) (made_of p r.segment r.some r.plain)

pub by_segments : (names : List (List ℕ)) → BySegments (path_tree names)
by_segments names p c = (
  λ h. let u = and_parts (ltb p (length names) && ltb c (length names)) (child_path (get_or names p []) (get_or names c [])) h in
      let v = and_parts (ltb p (length names)) (ltb c (length names)) u.0 in
      (ltb-true p (length names) v.0, ltb-true c (length names) v.1, segment_of (get_or names p []) (get_or names c []) u.1),
  λ h. and_from (ltb p (length names) && ltb c (length names)) (child_path (get_or names p []) (get_or names c []))
      (and_from (ltb p (length names)) (ltb c (length names)) (lt-ltb p (length names) h.0) (lt-ltb c (length names) h.1)) (child_from (get_or names p []) (get_or names c []) h.2),
)

-- what is read as a path tree
by_reading : (z : Reading (List (List ℕ))) (tree : Tree) → Ok tree ≡ outcome (on (on z (λ names q ds. got (path_tree names) q ds)) end) → BySegments tree
by_reading (got names q []) tree e = let s : path_tree names ≡ tree = cc in subst BySegments s (by_segments names)
by_reading (got names q (b ∷ bs)) tree e = cc
by_reading (refused r) tree e = cc

pub read_by_segments : (bs : List ℕ) (tree : Tree) → Ok tree ≡ read_path_tree bs → BySegments tree
read_by_segments bs tree e = by_reading (name_list (hollow true) 0 bs) tree e
