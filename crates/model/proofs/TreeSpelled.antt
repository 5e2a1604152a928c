-- Tree files are accepted exactly where they are the spelling of a well-formed content. Assumes nothing.
use Rattle.std.proofs.Common.{◌≡◌, ℕ, zero, suc, ◌+◌, ◌*◌, ◌/◌, ◌%◌, ◌<◌, ◌≤◌, Bool, true, false, cond, ◌&&◌, eqb, leb, List, [], ◌∷◌, ◌++◌, length, Ok, sym, refl, ap, ◌∙◌, subst, ap₂, ⊎_elim, append_assoc, append-nil, arith}
use mathlib.Core.List.Memᴰ
use mathlib.Core.List.{Memᴰ}
use Rattle.std.specs.List.{flat_map, AllByRecursion}
use Rattle.std.proofs.ByRecursion.{All-push}
use Rattle.std.proofs.lemmas.Bool.{and_parts, and_from, eqb-true, eq-eqb, leb-true, leb-false, le-leb, lt-leb, or_parts, or_from, both_ways, cond-true, false≢true}
use Rattle.model.specs.declared.item.Kind.TheVariants as kind
use Rattle.model.specs.Layout.{got, Reader, ◌>>=◌, give, refuse, unless, more, many, text, wide}
use Rattle.model.specs.Order.{Sorted}
use Rattle.model.specs.Spelling.{Between, spell_text}
use Rattle.model.specs.Tree.{Tree}
use Rattle.model.specs.TreeFiles.{among, new_name, one_name, name_list, any_name, node_number, link_fields, one_link, link_list, linked_tree, linked_tree_fields, hollow, path_tree, path_tree_fields, read_linked_tree, read_path_tree}
use Rattle.model.specs.TreeSpelling.{Unlike, NamesFit, LinksFit, spell_wide, spell_many, spell_link, Bytes, LinkedSpelling, PathSpelling, TreesAcceptedExactly}
use Rattle.model.specs.Values.{same}
use Rattle.model.proofs.Giving.{Gives, Taken, gives_give, gives_within, gives_unless, gives_weaker, gives_bind, gives_text, accepted}
use Rattle.model.proofs.Members.{sorted_append}
use Rattle.model.proofs.ReadingBack.{Reads, reads_give, reads_within, reads_unless, reads_bind, reads_text, back}

bytes_left : (xs ys : List ℕ) → Bytes (xs ++ ys) → Bytes xs
bytes_left [] ys h = tt
bytes_left (x ∷ xs) ys h = (h.0, bytes_left xs ys h.1)

bytes_right : (xs ys : List ℕ) → Bytes (xs ++ ys) → Bytes ys
bytes_right [] ys h = h
bytes_right (x ∷ xs) ys h = bytes_right xs ys h.1

-- where the taken numbers are bytes, they spell the value
abbrev pub Spelled : {X : Type 0} → (X → List ℕ) → List ℕ → X → Type 0
Spelled spell w x = Bytes w → w ≡ spell x

-- NUMBERS OF TWO BYTES

two_bytes : (a b : ℕ) → b < 256 → a ∷ b ∷ [] ≡ spell_wide (a * 256 + b)
two_bytes a b h =
    let q : a ≡ (a * 256 + b) / 256 = omega arith in
    let r : b ≡ (a * 256 + b) % 256 = omega arith in
    ap₂ (λ (x y : ℕ). x ∷ y ∷ []) q r

abbrev WideRead : ℕ → ℕ → List ℕ → ℕ → Type 0
WideRead low high w n = Spelled spell_wide w n × Between low high n

taken_wide : (low high p : ℕ) (bs : List ℕ) → Taken (WideRead low high) bs (wide low high p bs)
taken_wide low high p [] = tt
taken_wide low high p (a ∷ []) = tt
taken_wide low high p (a ∷ b ∷ rest) = go (leb low (a * 256 + b) && leb (a * 256 + b) high) refl
  where
    go : (t : Bool) → (leb low (a * 256 + b) && leb (a * 256 + b) high) ≡ t → Taken (WideRead low high) (a ∷ b ∷ rest) (cond t (got (a * 256 + b) (p + 2) rest) (refuse 13 p rest))
    go true e =
        let h = and_parts (leb low (a * 256 + b)) (leb (a * 256 + b) high) e in
        (a ∷ b ∷ [], refl, (λ k. two_bytes a b k.1.0, (leb-true low (a * 256 + b) h.0, leb-true (a * 256 + b) high h.1)))
    go false e = tt

gives_wide : (low high : ℕ) → Gives (wide low high) (WideRead low high)
gives_wide low high = record { gives = taken_wide low high }

reads_wide : (low high n : ℕ) → Between low high n → Reads (wide low high) (spell_wide n) n
reads_wide low high n h = record {
  reads = λ p rest.
      let m = (n / 256) * 256 + n % 256 in
      let e : m ≡ n = omega arith in
      (p + 2, cond-true (leb low m && leb m high) (got m (p + 2) rest) (refuse 13 p rest) (and_from (leb low m) (leb m high) (le-leb low m (omega arith)) (le-leb m high (omega arith))) ∙ ap (λ k. got k (p + 2) rest) e);
}

-- LISTS OF ITEMS

module _ {X : Type 0} (item : ℕ → List X → Reader X) (spell : X → List ℕ) (Good : List X → Type 0) where
  pub record Grown (xs : List X) (n : ℕ) (w : List ℕ) (ys : List X) : Type 0 where
    pub good : Good ys
    pub new : List X
    pub all : ys ≡ xs ++ new
    pub as_many : length new ≡ n
    pub spelled : Bytes w → w ≡ flat_map spell new

  module _ (one : (i : ℕ) (xs : List X) → Good xs → Gives (item i xs) (λ w x. Good (xs ++ x ∷ []) × Spelled spell w x)) where
    gives_more : (n i : ℕ) (xs : List X) → Good xs → Gives (more item n i xs) (Grown xs n)
    gives_more zero i xs g = gives_give (Grown xs 0) xs (record { good = g; new = []; all = sym (append-nil xs); as_many = refl; spelled = λ _. refl })
    gives_more (suc n) i xs g =
        gives_bind (λ w x. Good (xs ++ x ∷ []) × Spelled spell w x) (Grown xs (suc n)) (one i xs g) (λ x w h.
        gives_weaker (Grown (xs ++ x ∷ []) n) (λ v ys. Grown xs (suc n) (w ++ v) ys) (λ v ys a. record {
          good = a.good;
          new = x ∷ a.new;
          all = a.all ∙ append_assoc xs (x ∷ []) a.new;
          as_many = ap suc a.as_many;
          spelled = λ k. ap₂ (λ b c. b ++ c) (h.1 (bytes_left w v k)) (a.spelled (bytes_right w v k));
        }) (gives_more n (i + 1) (xs ++ x ∷ []) h.0))

    pub gives_many : (high : ℕ) → Good [] → Gives (wide 0 high >>= many item) (λ w ys. Good ys × (length ys ≤ high) × Spelled (spell_many spell) w ys)
    gives_many high g =
        let S : List ℕ → List X → Type 0 = λ w ys. Good ys × (length ys ≤ high) × Spelled (spell_many spell) w ys in
        gives_bind (WideRead 0 high) S (gives_wide 0 high) (λ n w h.
        gives_weaker (Grown [] n) (λ v ys. S (w ++ v) ys) (λ v ys a.
        let l : length ys ≡ n = ap length a.all ∙ a.as_many in
        (a.good, omega (arith, l, h.1.1), λ k. ap₂ (λ b c. b ++ c) (h.0 (bytes_left w v k) ∙ ap spell_wide (sym l)) (a.spelled (bytes_right w v k) ∙ ap (flat_map spell) (sym a.all))))
        (gives_more n 0 [] g))

  module _ (one : (i : ℕ) (xs : List X) (x : X) (zs : List X) → Good (xs ++ x ∷ zs) → Reads (item i xs) (spell x) x) where
    reads_more : (i : ℕ) (xs zs : List X) → Good (xs ++ zs) → Reads (more item (length zs) i xs) (flat_map spell zs) (xs ++ zs)
    reads_more i xs [] g = reads_give xs (xs ++ []) (sym (append-nil xs))
    reads_more i xs (z ∷ zs) g =
        let e : (xs ++ z ∷ []) ++ zs ≡ xs ++ z ∷ zs = append_assoc xs (z ∷ []) zs in
        reads_bind (λ x. more item (length zs) (i + 1) (xs ++ x ∷ [])) (spell z) (flat_map spell zs) z (one i xs z zs g)
        (subst (λ ys. Reads (more item (length zs) (i + 1) (xs ++ z ∷ [])) (flat_map spell zs) ys) e (reads_more (i + 1) (xs ++ z ∷ []) zs (subst Good (sym e) g)))

    pub reads_many : (high : ℕ) (xs : List X) → length xs ≤ high → Good xs → Reads (wide 0 high >>= many item) (spell_many spell xs) xs
    reads_many high xs h g = reads_bind (many item) (spell_wide (length xs)) (flat_map spell xs) (length xs) (reads_wide 0 high (length xs) (omega arith, h)) (reads_more 0 [] xs g)

-- NAMES

same_itself : (t : List ℕ) → same t t ≡ true
same_itself [] = refl
same_itself (x ∷ xs) = and_from (eqb x x) (same xs xs) (eq-eqb x x refl) (same_itself xs)

same_true : (s t : List ℕ) → same s t ≡ true → s ≡ t
same_true [] [] h = refl
same_true [] (y ∷ ys) h = absurd (false≢true h)
same_true (x ∷ xs) [] h = absurd (false≢true h)
same_true (x ∷ xs) (y ∷ ys) h =
    let b = and_parts (eqb x y) (same xs ys) h in
    ap₂ (λ (a : ℕ) (l : List ℕ). a ∷ l) (eqb-true x y b.0) (same_true xs ys b.1)

same_not : (s t : List ℕ) → (s ≡ t → ⊥) → same s t ≡ false
same_not s t h = go (same s t) refl
  where
    go : (b : Bool) → same s t ≡ b → same s t ≡ false
    go true e = absurd (h (same_true s t e))
    go false e = e

not_among : (names : List (List ℕ)) (t : List ℕ) → among names t ≡ false → (x : List ℕ) → Memᴰ x names → x ≡ t → ⊥
not_among [] t e x m q = Memᴰ.not-nil m
not_among (y ∷ ys) t e x m q =
    let h = or_parts (same y t) (among ys t) e in
    ⊎_elim (λ r. both_ways (same y t) h.0 (subst (λ u. same u t ≡ true) (sym q ∙ r) (same_itself t))) (λ n. not_among ys t h.1 x n q) (Memᴰ.cases_cons m)

among_none : (names : List (List ℕ)) (t : List ℕ) → ((x : List ℕ) → Memᴰ x names → x ≡ t → ⊥) → among names t ≡ false
among_none [] t f = refl
among_none (x ∷ xs) t f = or_from (same x t) (among xs t) (same_not x t (f x (Memᴰ.head refl))) (among_none xs t (λ y m. f y (Memᴰ.tail m)))

module _ (wrong : List ℕ → Bool) where
  abbrev One : List ℕ → Type 0
  One t = Between 1 64 (length t) × (wrong t ≡ false)

  abbrev GoodNames : List (List ℕ) → Type 0
  GoodNames names = AllByRecursion One names × Sorted Unlike names

  one_more : (xs : List (List ℕ)) (t : List ℕ) → GoodNames xs → One t → among xs t ≡ false → GoodNames (xs ++ t ∷ [])
  one_more xs t g o a = (
    All-push One xs t g.0 o,
    sorted_append Unlike xs (t ∷ []) g.1 (λ y m. absurd (Memᴰ.not-nil m), tt) (λ x y m k e. not_among xs t a x m (e ∙ Memᴰ.eq_of_singleton k)),
  )

  gives_name : (i : ℕ) (xs : List (List ℕ)) → GoodNames xs → Gives (one_name wrong i xs) (λ w t. GoodNames (xs ++ t ∷ []) × Spelled spell_text w t)
  gives_name i xs g =
      let R : List ℕ → List ℕ → Type 0 = λ w t. GoodNames (xs ++ t ∷ []) × Spelled spell_text w t in
      let S : List ℕ → List ℕ → Type 0 = λ w t. (w ≡ spell_text t) × Between 1 64 (length t) in
      gives_within R kind.Name i (new_name wrong xs)
      (gives_weaker (λ w t. (S w t × (wrong t ≡ false)) × (among xs t ≡ false)) R (λ w t h. (one_more xs t g (h.0.0.1, h.0.1) h.1, λ _. h.0.0.0))
      (gives_unless (λ w t. S w t × (wrong t ≡ false)) (among xs) 16 (unless wrong 18 (text 1 64)) (gives_unless S wrong 18 (text 1 64) (gives_text 1 64))))

  gives_names : Gives (name_list wrong) (λ w names. GoodNames names × (length names ≤ 1024) × Spelled (spell_many spell_text) w names)
  gives_names = gives_many (one_name wrong) spell_text GoodNames gives_name 1024 (tt, tt)

  good_here : (xs : List (List ℕ)) (t : List ℕ) (zs : List (List ℕ)) → AllByRecursion One (xs ++ t ∷ zs) → One t
  good_here [] t zs h = h.0
  good_here (x ∷ xs) t zs h = good_here xs t zs h.1

  apart_before : (xs : List (List ℕ)) (t : List ℕ) (zs : List (List ℕ)) → Sorted Unlike (xs ++ t ∷ zs) → (x : List ℕ) → Memᴰ x xs → x ≡ t → ⊥
  apart_before [] t zs s x m e = Memᴰ.not-nil m
  apart_before (y ∷ xs) t zs s x m e = ⊎_elim
      (λ q. s.0 t (Memᴰ.append_right xs (Memᴰ.head refl)) (sym q ∙ e))
      (λ n. apart_before xs t zs s.1 x n e)
      (Memᴰ.cases_cons m)

  reads_name : (i : ℕ) (xs : List (List ℕ)) (t : List ℕ) (zs : List (List ℕ)) → GoodNames (xs ++ t ∷ zs) → Reads (one_name wrong i xs) (spell_text t) t
  reads_name i xs t zs g =
      let o = good_here xs t zs g.0 in
      reads_within kind.Name i (new_name wrong xs) (spell_text t) t
      (reads_unless (among xs) 16 (unless wrong 18 (text 1 64)) (spell_text t) t (among_none xs t (apart_before xs t zs g.1))
      (reads_unless wrong 18 (text 1 64) (spell_text t) t o.1 (reads_text 1 64 t o.0)))

  reads_names : (names : List (List ℕ)) → NamesFit wrong names → Reads (name_list wrong) (spell_many spell_text names) names
  reads_names names f = reads_many (one_name wrong) spell_text GoodNames reads_name 1024 names f.few (f.each, f.apart)

-- LINKS

module _ (nodes : ℕ) where
  abbrev Joins : ℕ × ℕ → Type 0
  Joins l = (l.0 < nodes) × (l.1 < nodes)

  abbrev NodeRead : List ℕ → ℕ → Type 0
  NodeRead w n = Spelled spell_wide w n × (n < nodes)

  gives_node : Gives (node_number nodes) NodeRead
  gives_node =
      gives_weaker (λ w n. WideRead 0 65535 w n × (leb nodes n ≡ false)) NodeRead (λ w n h. (h.0.0, leb-false nodes n h.1))
      (gives_unless (WideRead 0 65535) (λ n. leb nodes n) 17 (wide 0 65535) (gives_wide 0 65535))

  abbrev LinkRead : List ℕ → ℕ × ℕ → Type 0
  LinkRead w l = Joins l × Spelled spell_link w l

  gives_link : Gives (link_fields nodes) LinkRead
  gives_link =
      gives_bind NodeRead LinkRead gives_node (λ p w h.
      gives_bind NodeRead (λ v l. LinkRead (w ++ v) l) gives_node (λ c v k.
      gives_give (λ u l. LinkRead (w ++ (v ++ u)) l) (p, c)
      ((h.1, k.1), λ b. ap₂ (λ x y. x ++ y) (h.0 (bytes_left w (v ++ []) b)) (append-nil v ∙ k.0 (bytes_left v [] (bytes_right w (v ++ []) b))))))

  reads_node : (n : ℕ) → nodes ≤ 65536 → n < nodes → Reads (node_number nodes) (spell_wide n) n
  reads_node n few h = reads_unless (λ m. leb nodes m) 17 (wide 0 65535) (spell_wide n) n (lt-leb nodes n h) (reads_wide 0 65535 n (omega arith, omega arith))

  reads_link : (l : ℕ × ℕ) → nodes ≤ 65536 → Joins l → Reads (link_fields nodes) (spell_link l) l
  reads_link l few h =
      reads_bind _ (spell_wide l.0) (spell_wide l.1) l.0 (reads_node l.0 few h.0)
      (subst (λ w. Reads (node_number nodes >>= λ c. give (l.0, c)) w l) (append-nil (spell_wide l.1))
      (reads_bind _ (spell_wide l.1) [] l.1 (reads_node l.1 few h.1) (reads_give (l.0, l.1) l refl)))

  gives_links : Gives (link_list nodes) (λ w links. AllByRecursion Joins links × (length links ≤ 4096) × Spelled (spell_many spell_link) w links)
  gives_links = gives_many (one_link nodes) spell_link (AllByRecursion Joins)
      (λ i xs g. gives_weaker LinkRead (λ w l. AllByRecursion Joins (xs ++ l ∷ []) × Spelled spell_link w l) (λ w l h. (All-push Joins xs l g h.0, h.1)) (gives_within LinkRead kind.Link i (link_fields nodes) gives_link))
      4096 tt

  joins_here : (xs : List (ℕ × ℕ)) (l : ℕ × ℕ) (zs : List (ℕ × ℕ)) → AllByRecursion Joins (xs ++ l ∷ zs) → Joins l
  joins_here [] l zs h = h.0
  joins_here (x ∷ xs) l zs h = joins_here xs l zs h.1

  reads_links : nodes ≤ 65536 → (links : List (ℕ × ℕ)) → LinksFit nodes links → Reads (link_list nodes) (spell_many spell_link links) links
  reads_links few links f =
      reads_many (one_link nodes) spell_link (AllByRecursion Joins) (λ i xs l zs g. reads_within kind.Link i (link_fields nodes) (spell_link l) l (reads_link l few (joins_here xs l zs g)))
      4096 links f.few f.each

-- WHOLE FILES

linked_given : Gives linked_tree_fields (λ w t. Bytes w → LinkedSpelling w t)
linked_given =
    let S : List ℕ → Tree → Type 0 = λ w t. Bytes w → LinkedSpelling w t in
    gives_bind (λ w names. GoodNames any_name names × (length names ≤ 1024) × Spelled (spell_many spell_text) w names) S (gives_names any_name) (λ names w h.
    gives_bind (λ v links. AllByRecursion (Joins (length names)) links × (length links ≤ 4096) × Spelled (spell_many spell_link) v links) (λ v t. S (w ++ v) t) (gives_links (length names)) (λ links v k.
    gives_give (λ u t. S (w ++ (v ++ u)) t) (linked_tree names links) (λ b. record {
      names = names;
      links = links;
      names_fit = record { few = h.1; each = h.0.0; apart = h.0.1 };
      links_fit = record { few = k.1; each = k.0 };
      spelled = ap₂ (λ x y. x ++ y) (h.2 (bytes_left w (v ++ []) b)) (append-nil v ∙ k.2 (bytes_left v [] (bytes_right w (v ++ []) b)));
      meant = refl;
    })))

path_given : Gives path_tree_fields (λ w t. Bytes w → PathSpelling w t)
path_given =
    let S : List ℕ → Tree → Type 0 = λ w t. Bytes w → PathSpelling w t in
    gives_bind (λ w names. GoodNames (hollow true) names × (length names ≤ 1024) × Spelled (spell_many spell_text) w names) S (gives_names (hollow true)) (λ names w h.
    gives_give (λ u t. S (w ++ u) t) (path_tree names) (λ b. record {
      names = names;
      names_fit = record { few = h.1; each = h.0.0; apart = h.0.1 };
      spelled = append-nil w ∙ h.2 (bytes_left w [] b);
      meant = refl;
    }))

linked_back : (bytes : List ℕ) (t : Tree) → LinkedSpelling bytes t → read_linked_tree bytes ≡ Ok t
linked_back bytes t s =
    let names = s.names in
    let links = s.links in
    let u = spell_many spell_text names in
    let v = spell_many spell_link links in
    let few : length names ≤ 65536 = omega (arith, s.names_fit.few) in
    let r : Reads linked_tree_fields (u ++ v) (linked_tree names links) =
    reads_bind _ u v names (reads_names any_name names s.names_fit)
    (subst (λ w. Reads (link_list (length names) >>= λ ls. give (linked_tree names ls)) w (linked_tree names links)) (append-nil v)
    (reads_bind _ v [] links (reads_links (length names) few links s.links_fit) (reads_give (linked_tree names links) (linked_tree names links) refl))) in
    ap read_linked_tree s.spelled ∙ back linked_tree_fields (u ++ v) (linked_tree names links) r ∙ ap (λ x. Ok x) (sym s.meant)

path_back : (bytes : List ℕ) (t : Tree) → PathSpelling bytes t → read_path_tree bytes ≡ Ok t
path_back bytes t s =
    let names = s.names in
    let u = spell_many spell_text names in
    let r : Reads path_tree_fields u (path_tree names) =
    subst (λ w. Reads path_tree_fields w (path_tree names)) (append-nil u)
    (reads_bind _ u [] names (reads_names (hollow true) names s.names_fit) (reads_give (path_tree names) (path_tree names) refl)) in
    ap read_path_tree s.spelled ∙ back path_tree_fields u (path_tree names) r ∙ ap (λ x. Ok x) (sym s.meant)

pub trees_accepted_exactly : TreesAcceptedExactly
trees_accepted_exactly bytes tree b = (
  (λ e. accepted (λ w t. Bytes w → LinkedSpelling w t) linked_tree_fields linked_given bytes tree e b, linked_back bytes tree),
  (λ e. accepted (λ w t. Bytes w → PathSpelling w t) path_tree_fields path_given bytes tree e b, path_back bytes tree),
)
