-- A tree that a file gives is within the limits. Assumes nothing.
use Rattle.std.proofs.Common.{◌≡◌, ℕ, ◌<◌, ◌≤◌, Bool, true, false, ◌&&◌, eqb, ltb, leb, List, [], ◌∷◌, ◌++◌, length, get_or, sym, subst, inl, inr, ⊎_elim, arith}
use mathlib.Core.List.Memᴰ
use mathlib.Core.List.{Memᴰ}
use Rattle.std.specs.List.{AllByRecursion}
use Rattle.std.proofs.ByRecursion.{All-push, All-get_or}
use Rattle.std.proofs.lemmas.Bool.{or_cases, or_parts, and_parts, eqb-true, cases_lt, leb-false, ltb-true, false≢true}
use Rattle.model.specs.Layout.{unless, text, wide}
use Rattle.model.specs.Order.{Sorted}
use Rattle.model.specs.Spelling.{Between}
use Rattle.model.specs.Values.{Same, same}
use Rattle.model.specs.Tree.{Limits}
use Rattle.model.specs.TreeFiles.{among, new_name, one_name, name_list, any_name, node_number, link_fields, one_link, link_list, has_link, linked_tree, linked_tree_fields, hollow, child_path, linked_by_path, path_tree, path_tree_fields, TreeFilesKeepLimits}
use Rattle.model.proofs.Giving.{gives_give, gives_within, gives_unless, gives_weaker}
use Rattle.model.proofs.Members.{sorted_append}
use Rattle.model.proofs.Positions.{get_d_at, sorted_at}
use Rattle.model.proofs.Values.{same_false}
use Rattle.model.proofs.Keeping.{Keeps, keeps_bind, keeps_text, keeps_wide, AsMany, keeps_many, kept_file}
use Rattle.model.specs.declared.item.Kind.TheVariants as kind

-- NAMES

abbrev Sized : List ℕ → Type 0
Sized t = Between 1 64 (length t)

abbrev Unlike : List ℕ → List ℕ → Type 0
Unlike x y = Same x y → ⊥

abbrev Names : List (List ℕ) → Type 0
Names names = AllByRecursion Sized names × Sorted Unlike names

not_among : (names : List (List ℕ)) (t : List ℕ) → among names t ≡ false → (x : List ℕ) → Memᴰ x names → Unlike x t
not_among [] t e x m q = absurd (Memᴰ.not-nil m)
not_among (y ∷ ys) t e x m q =
    let h = or_parts (same y t) (among ys t) e in
    ⊎_elim (λ r. same_false y t h.0 (subst (λ z. Same z t) r q)) (λ n. not_among ys t h.1 x n q) (Memᴰ.cases_cons m)

names_push : (names : List (List ℕ)) (t : List ℕ) → Names names → Sized t → among names t ≡ false → Names (names ++ t ∷ [])
names_push names t h b e = (
  All-push Sized names t h.0 b,
  sorted_append Unlike names (t ∷ []) h.1 (λ y m. absurd (Memᴰ.not-nil m), tt)
      (λ x y m k q. not_among names t e x m (subst (Same x) (Memᴰ.eq_of_singleton k) q)),
)

module _ (wrong : List ℕ → Bool) where
  keeps_name : (earlier : List (List ℕ)) → Keeps (λ t. (Sized t × (wrong t ≡ false)) × (among earlier t ≡ false)) (new_name wrong earlier)
  keeps_name earlier =
      gives_unless (λ w t. Sized t × (wrong t ≡ false)) (among earlier) 16 (unless wrong 18 (text 1 64))
      (gives_unless (λ w t. Sized t) wrong 18 (text 1 64) (keeps_text 1 64))

  keeps_one_name : (i : ℕ) (earlier : List (List ℕ)) → Names earlier → Keeps (λ t. Names (earlier ++ t ∷ [])) (one_name wrong i earlier)
  keeps_one_name i earlier h =
      gives_within (λ w t. Names (earlier ++ t ∷ [])) kind.Name i (new_name wrong earlier)
      (gives_weaker (λ w t. (Sized t × (wrong t ≡ false)) × (among earlier t ≡ false)) (λ w t. Names (earlier ++ t ∷ []))
      (λ w t k. names_push earlier t h k.0.0 k.1) (keeps_name earlier))

  abbrev FewNames : List (List ℕ) → Type 0
  FewNames names = Names names × (length names ≤ 1024)

  keeps_names : Keeps FewNames (name_list wrong)
  keeps_names =
      keeps_bind (λ n. n ≤ 1024) FewNames (keeps_wide 0 1024) (λ n l.
      gives_weaker (λ w names. AsMany Names (one_name wrong) n names) (λ w names. FewNames names) (λ w names h. (h.0, omega (arith, h.1)))
      (keeps_many Names (one_name wrong) keeps_one_name (tt, tt) n))

-- LIMITS

names_differ : (names : List (List ℕ)) → Sorted Unlike names → (m n : ℕ) → m < length names → n < length names
    → Same (get_or names m []) (get_or names n []) → m ≡ n
names_differ names s m n l k e = ⊎_elim
    (λ b. absurd (sorted_at Unlike s b (get_d_at [] m names l) (get_d_at [] n names k) e))
    (λ b. ⊎_elim (λ c. absurd (sorted_at Unlike s c (get_d_at [] n names k) (get_d_at [] m names l) (sym e))) (λ c. omega arith) (cases_lt n m))
    (cases_lt m n)

limits_from : (names : List (List ℕ)) (linked : ℕ → ℕ → Bool) → Names names → length names ≤ 1024
    → ((a b : ℕ) → linked a b ≡ true → (a < length names) × (b < length names)) → Limits (record { names = names; linked = linked })
limits_from names linked h l f = record {
  few = l;
  some_bytes = λ i k. (All-get_or Sized names i [] k h.0).0;
  few_bytes = λ i k. (All-get_or Sized names i [] k h.0).1;
  distinct = names_differ names h.1;
  between_nodes = f;
}

-- THE LINKED TREE

abbrev Ends : ℕ → ℕ × ℕ → Type 0
Ends n l = (l.0 < n) × (l.1 < n)

keeps_node : (n : ℕ) → Keeps (λ a. a < n) (node_number n)
keeps_node n =
    gives_weaker (λ w a. (a ≤ 65535) × (leb n a ≡ false)) (λ w a. a < n) (λ w a h. leb-false n a h.1)
    (gives_unless (λ w a. a ≤ 65535) (λ a. leb n a) 17 (wide 0 65535) (keeps_wide 0 65535))

keeps_link : (n : ℕ) → Keeps (Ends n) (link_fields n)
keeps_link n =
    keeps_bind (λ a. a < n) (Ends n) (keeps_node n) (λ a h.
    keeps_bind (λ b. b < n) (Ends n) (keeps_node n) (λ b k.
    gives_give (λ w l. Ends n l) (a, b) (h, k)))

keeps_one_link : (n i : ℕ) (earlier : List (ℕ × ℕ)) → AllByRecursion (Ends n) earlier → Keeps (λ l. AllByRecursion (Ends n) (earlier ++ l ∷ [])) (one_link n i earlier)
keeps_one_link n i earlier h =
    gives_within (λ w l. AllByRecursion (Ends n) (earlier ++ l ∷ [])) kind.Link i (link_fields n)
    (gives_weaker (λ w l. Ends n l) (λ w l. AllByRecursion (Ends n) (earlier ++ l ∷ [])) (λ w l k. All-push (Ends n) earlier l h k) (keeps_link n))

keeps_links : (n : ℕ) → Keeps (AllByRecursion (Ends n)) (link_list n)
keeps_links n =
    keeps_bind (λ k. k ≤ 4096) (AllByRecursion (Ends n)) (keeps_wide 0 4096) (λ k l.
    gives_weaker (λ w ls. AsMany (AllByRecursion (Ends n)) (one_link n) k ls) (λ w ls. AllByRecursion (Ends n) ls) (λ w ls h. h.0)
    (keeps_many (AllByRecursion (Ends n)) (one_link n) (keeps_one_link n) tt k))

link_ends : (n : ℕ) (links : List (ℕ × ℕ)) → AllByRecursion (Ends n) links → (a b : ℕ) → has_link links a b ≡ true → (a < n) × (b < n)
link_ends n [] h a b e = absurd (false≢true e)
link_ends n (l ∷ ls) h a b e = ⊎_elim {C = (a < n) × (b < n)}
    (λ q.
    let r = and_parts (eqb l.0 a) (eqb l.1 b) q in
    (omega (arith, eqb-true l.0 a r.0, h.0), omega (arith, eqb-true l.1 b r.1, h.0)))
    (link_ends n ls h.1 a b)
    (or_cases (eqb l.0 a && eqb l.1 b) (has_link ls a b) e)

keeps_linked : Keeps Limits linked_tree_fields
keeps_linked =
    keeps_bind (FewNames any_name) Limits (keeps_names any_name) (λ names h.
    keeps_bind (AllByRecursion (Ends (length names))) Limits (keeps_links (length names)) (λ links k.
    gives_give (λ w t. Limits t) (linked_tree names links) (limits_from names (has_link links) h.0 h.1 (link_ends (length names) links k))))

-- THE PATH TREE

path_ends : (names : List (List ℕ)) (a b : ℕ) → linked_by_path names a b ≡ true → (a < length names) × (b < length names)
path_ends names a b e =
    let h = and_parts (ltb a (length names) && ltb b (length names)) (child_path (get_or names a []) (get_or names b [])) e in
    let k = and_parts (ltb a (length names)) (ltb b (length names)) h.0 in
    (ltb-true a (length names) k.0, ltb-true b (length names) k.1)

keeps_paths : Keeps Limits path_tree_fields
keeps_paths =
    keeps_bind (FewNames (hollow true)) Limits (keeps_names (hollow true)) (λ names h.
    gives_give (λ w t. Limits t) (path_tree names) (limits_from names (linked_by_path names) h.0 h.1 (path_ends names)))

-- BOTH

pub tree_files_keep_limits : TreeFilesKeepLimits
tree_files_keep_limits bytes tree (inl e) = kept_file Limits linked_tree_fields keeps_linked bytes tree e
tree_files_keep_limits bytes tree (inr e) = kept_file Limits path_tree_fields keeps_paths bytes tree e
