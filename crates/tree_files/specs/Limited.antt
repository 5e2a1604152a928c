-- Every tree that is kept has the limits of trees. Assumes nothing.
use Rattle.std.specs.Prelude.{◌≡◌, ℕ, suc, ◌<◌, ◌≤◌, true, ◌&&◌, List, [], ◌∷◌, length, get_or, vec_items, vec_len, ◌==◌, ◌≢◌, nat_eq, slice_index, slice_index_or, refl}
use Rattle.std.specs.declared.cmp.Ordering.TheVariants.{Less, Equal, Greater}
use Rattle.std.specs.declared.cmp.Ordering.{Ordering}
use Rattle.std.proofs.Common.{sym, ap, subst, ◌∙◌, ⊎_elim, arith}
use Rattle.std.proofs.lemmas.List.{length-map}
use Rattle.std.proofs.lemmas.Bool.{eqb-true, or_cases, and_parts, false≢true, cases_order}
use Rattle.std.specs.Ordering.{is_lt, ordering_reverse}
use Rattle.std.specs.Cmp.{nat_cmp_total, tied_itself}
use Rattle.model.specs.Lists.{any}
use Rattle.model.specs.Tree.{Limits}
use Rattle.model.specs.TreeFiles.{has_link, linked_tree}
use Rattle.wire.specs.Told.{spanned}
use Rattle.tree_files.specs.declared.kept.Kept.{Kept}
use Rattle.tree_files.specs.declared.file.TreeFile.{TreeFile}
use Rattle.tree_files.specs.declared.names.Names.{Names}
use Rattle.tree_files.specs.Kept.{tree_of}
use Rattle.tree_files.specs.Texts.{texts_in}
use Rattle.tree_files.specs.Trees.{tree_of_file}
use Rattle.tree_files.specs.Names.{compared, name_at, Named, Ascending, Complete}
use Rattle.tree_files.specs.Links.{Ends}
use Rattle.std.specs.Cmp.Lexicographic.{lists_total}

pub is_less : (o : Ordering) → is_lt o ≡ true → o ≡ Less
is_less Less h = refl
is_less Equal h = absurd (false≢true h)
is_less Greater h = absurd (false≢true h)

pub less_apart : (s t : List ℕ) → is_lt (compared s t) ≡ true → s ≢ t
less_apart s t h e = false≢true (sym (ap is_lt (tied_itself (lists_total nat_cmp_total) s)) ∙ ap (λ u. is_lt (compared s u)) e ∙ h)

pub any_at : (n : ℕ) (xs : List ℕ) → any (nat_eq n) xs ≡ true → (i : ℕ) × (i < length xs) × (slice_index xs i ≡ n)
any_at n [] h = absurd (false≢true h)
any_at n (x ∷ xs) h = ⊎_elim
    (λ e. (0, omega arith, sym (eqb-true n x e)))
    (λ e. let r = any_at n xs e in (suc r.0, omega (arith, r.1), r.2))
    (or_cases (n == x) (any (nat_eq n) xs) h)

-- nodes with one name are one
pub distinct_from : (texts : List (List ℕ)) (order : List ℕ) → Ascending texts order → Complete texts order → (m n : ℕ) → m < length texts → n < length texts → slice_index_or texts m [] ≡ slice_index_or texts n [] → m ≡ n
distinct_from texts order up all m n h k e =
    let i = any_at m order (all m h) in
    let j = any_at n order (all n k) in
    let at_i : name_at texts order i.0 ≡ get_or texts m [] = ap (λ x. get_or texts x []) i.2 in
    let at_j : name_at texts order j.0 ≡ get_or texts n [] = ap (λ x. get_or texts x []) j.2 in
    ⊎_elim (λ s. sym i.2 ∙ ap (λ x. slice_index order x) s ∙ j.2)
    (⊎_elim (λ l. absurd (less_apart _ _ (up i.0 j.0 (l, j.1)) (at_i ∙ e ∙ sym at_j)))
    (λ l. absurd (less_apart _ _ (up j.0 i.0 (l, i.1)) (at_j ∙ sym e ∙ sym at_i))))
    (cases_order i.0 j.0)

pub link_at : (links : List (ℕ × ℕ)) (p c : ℕ) → has_link links p c ≡ true → (i : ℕ) × (i < length links) × ((get_or links i (0, 0)).0 ≡ p) × ((get_or links i (0, 0)).1 ≡ c)
link_at [] p c h = absurd (false≢true h)
link_at (l ∷ ls) p c h = ⊎_elim
    (λ e. let b = and_parts (l.0 == p) (l.1 == c) e in (0, omega arith, eqb-true l.0 p b.0, eqb-true l.1 c b.1))
    (λ e. let r = link_at ls p c e in (suc r.0, omega (arith, r.1), r.2, r.3))
    (or_cases (l.0 == p && l.1 == c) (has_link ls p c) h)

pub limits_from : (texts : List (List ℕ)) (order : List ℕ) (links : List (ℕ × ℕ)) → length texts ≤ 1024 → Named texts → Ascending texts order → Complete texts order → Ends (length texts) links → Limits (linked_tree texts links)
limits_from texts order links few named up all ends = record {
  few = few;
  some_bytes = λ n h. (named n h).0;
  few_bytes = λ n h. (named n h).1;
  distinct = distinct_from texts order up all;
  between_nodes = λ m n h. let r = link_at links m n h in let e = ends r.0 r.1 in (omega (arith, e.0, r.2), omega (arith, e.1, r.3));
}

pub as_many : (n : Names) → vec_len n.spans ≡ length (texts_in n)
as_many n = n.spans.ok.0 ∙ sym (length-map (vec_items n.spans) (spanned n.bytes.now))

pub kept_limits : (k : Kept) → Limits (tree_of k)
kept_limits k =
    let n = k.tables.names in
    limits_from (texts_in n) (vec_items n.order) (vec_items k.tables.links) (subst (λ m. m ≤ 1024) (as_many n) n.few) n.named n.ascending n.complete k.ends

pub file_limits : {F : Type 0} (t : TreeFile F) → Limits (tree_of_file t)
file_limits t = kept_limits t.kept
