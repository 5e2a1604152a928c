-- What a reference lists, as the relations Lists and IsUnknownTag say. Assumes nothing.
use Rattle.std.proofs.Common.{◌≡◌, ℕ, zero, suc, ◌+◌, ◌<◌, true, ◌↔◌, List, [], ◌∷◌, map, length, Some, None, Option, sym, refl, ap, subst, ⊎_elim, le_of_suc-le-suc, not-suc-le-zero, arith}
use mathlib.Core.List.Memᴰ
use mathlib.Core.List.{Memᴰ}
use Rattle.std.specs.List.{AllByRecursion}
use Rattle.std.proofs.lemmas.Bool.{eqb-true, eq-eqb, cases_lt, false≢true}
use Rattle.model.specs.Order.{Sorted}
use Rattle.model.specs.Content.{Element, Request, is_tag}
use Rattle.model.specs.Spelling.{OtherTag}
use Rattle.model.specs.Lists.{found, At, Pairwise}
use Rattle.model.specs.Rows.{Listed, numbers_from, all_listed, carries, Listing, before, listed_next, listing, listings_by, listings, lists, unknown}
use Rattle.model.specs.Meaning.{Names, Lists, IsUnknownTag}
use Rattle.model.proofs.Members.{all_from, Finds, finds}
use Rattle.model.proofs.Positions.{at_nil, at_cases, same_places, at_map, of_at_map, pairwise_at, pairwise_same, sorted_at}

-- a tag names one element at most
names_same : (q : Request) → Sorted OtherTag q.elements → (t m n : ℕ) → Names q t m → Names q t n → m ≡ n
names_same q s t m n a b = ⊎_elim
    (λ l. absurd (sorted_at OtherTag s l a.1 b.1 t a.2 b.2))
    (λ l. ⊎_elim (λ k. absurd (sorted_at OtherTag s k b.1 a.1 t b.2 a.2)) (λ k. omega arith) (cases_lt n m))
    (cases_lt m n)

-- ELEMENTS WITH THEIR NUMBERS

abbrev pub Right : Request → Listed → Type 0
Right q l = At l.number l.element q.elements

abbrev pub numbers : List Listed → List ℕ
numbers ls = map (λ (l : Listed). l.number) ls

of_numbers_from : (i : ℕ) (es : List Element) (l : Listed) → Memᴰ l (numbers_from i es) → (k : ℕ) × (l.number ≡ i + k) × At k l.element es
of_numbers_from i [] l m = absurd (Memᴰ.not-nil m)
of_numbers_from i (e ∷ es) l m = ⊎_elim {C = (k : ℕ) × (l.number ≡ i + k) × At k l.element (e ∷ es)}
    (λ q.
    let n : l.number ≡ i = ap (λ (x : Listed). x.number) q in
    (0, omega arith, subst (λ (x : Element). At 0 x (e ∷ es)) (sym (ap (λ (x : Listed). x.element) q)) At.first))
    (λ t. let r = of_numbers_from (i + 1) es l t in (suc r.0, omega (arith, r.1), At.later r.2))
    (Memᴰ.cases_cons m)

in_numbers_from : (i : ℕ) (es : List Element) {k : ℕ} {e : Element} → At k e es
    → Memᴰ {A = Listed} (record { number = i + k; element = e }) (numbers_from i es)
in_numbers_from i es (At.first {x = e}) = Memᴰ.head (ap (λ (n : ℕ). record { number = n; element = e }) {x = i + 0} {y = i} (omega arith))
in_numbers_from i es (At.later {x = e} {xs = fs} {n = k} a) =
    Memᴰ.tail (subst (λ n. Memᴰ {A = Listed} (record { number = n; element = e }) (numbers_from (i + 1) fs)) {x = i + 1 + k}
    {y = i + suc k} (omega arith) (in_numbers_from (i + 1) fs a))

at_numbers : (i : ℕ) (es : List Element) (p n : ℕ) → At p n (numbers (numbers_from i es)) → (n ≡ i + p) × (p < length es)
at_numbers i [] p n a = absurd (at_nil a)
at_numbers i (e ∷ es) p n a = ⊎_elim {C = (n ≡ i + p) × (p < length (e ∷ es))}
    (λ q. (omega (arith, q.0, q.1), omega (arith, q.0)))
    (λ q. let r = at_numbers (i + 1) es q.0 n q.2 in (omega (arith, q.1), omega (arith, q.1)))
    (at_cases a)

numbers_at : (i : ℕ) (es : List Element) (p : ℕ) → p < length es → At p (i + p) (numbers (numbers_from i es))
numbers_at i [] p l = absurd (not-suc-le-zero l)
numbers_at i (e ∷ es) zero l = subst (λ n. At 0 n (numbers (numbers_from i (e ∷ es)))) {x = i} {y = i + 0} (omega arith) At.first
numbers_at i (e ∷ es) (suc p) l =
    subst (λ n. At (suc p) n (numbers (numbers_from i (e ∷ es)))) {x = i + 1 + p} {y = i + suc p} (omega arith)
    (At.later (numbers_at (i + 1) es p (le_of_suc-le-suc l)))

carries_tag : (t : ℕ) (o : Option ℕ) → is_tag t o ≡ true → o ≡ Some t
carries_tag t None e = absurd (false≢true e)
carries_tag t (Some u) e = ap {B = Option ℕ} Some (eqb-true u t e)

tag_carries : (t : ℕ) (o : Option ℕ) → o ≡ Some t → is_tag t o ≡ true
tag_carries t o e = subst (λ (v : Option ℕ). is_tag t v ≡ true) (sym e) (eq-eqb t t refl)

-- REFERENCES

module _ (q : Request) where
  right_of : (l : Listed) → Memᴰ l (all_listed q) → Right q l
  right_of l m =
      let r = of_numbers_from 0 q.elements l m in
      subst (λ n. At n l.element q.elements) {x = r.0} {y = l.number} (omega (arith, r.1)) r.2

  every_number : (p n : ℕ) → At p n (numbers (all_listed q)) ↔ ((n ≡ p) × (p < length q.elements))
  every_number p n = (
    λ a. let r = at_numbers 0 q.elements p n a in (omega arith, r.1),
    λ h. subst (λ m. At p m (numbers (all_listed q))) {x = 0 + p} {y = n} (omega arith) (numbers_at 0 q.elements p h.1),
  )

  -- the first tag that names no element
  pub record Unnamed (p : ℕ) (ts : List ℕ) (u : ℕ) : Type 0 where
    pub position : ℕ
    pub tag : ℕ
    pub place : u ≡ p + position
    pub stands : At position tag ts
    pub names_none : (n : ℕ) → Names q tag n → ⊥
    pub others_name : (i v : ℕ) → i < position → At i v ts → (n : ℕ) × Names q v n

  abbrev ListingMeans : ℕ → List ℕ → Listing → Type 0
  ListingMeans p ts (lists ls) = Pairwise (Names q) ts (numbers ls) × AllByRecursion (Right q) ls
  ListingMeans p ts (unknown u) = Unnamed p ts u

  listing_on : (p t : ℕ) (ts : List ℕ) (l : Listed) → Right q l → Names q t l.number → (k : Listing) → ListingMeans (p + 1) ts k
      → ListingMeans p (t ∷ ts) (before l k)
  listing_on p t ts l r n (lists ls) h = (Pairwise.both n h.0, (r, h.1))
  listing_on p t ts l r n (unknown u) h = record {
    position = suc h.position;
    tag = h.tag;
    place = omega (arith, h.place);
    stands = At.later h.stands;
    names_none = h.names_none;
    others_name =
        λ i v b a. ⊎_elim {C = (n : ℕ) × Names q v n} (λ e. (l.number, subst (λ w. Names q w l.number) (sym e.1) n))
        (λ e. h.others_name e.0 v (omega (arith, e.1)) e.2) (at_cases a);
  }

  listing_found : (p t : ℕ) (ts : List ℕ) (o : Option Listed) → Finds (carries t) (all_listed q) o → (k : Listing) → ListingMeans (p + 1) ts k
      → ListingMeans p (t ∷ ts) (listed_next p o k)
  listing_found p t ts None f k h = record {
    position = 0;
    tag = t;
    place = omega arith;
    stands = At.first;
    names_none = λ n x. f (record { number = 0 + n; element = x.0 }) (in_numbers_from 0 q.elements x.1) (tag_carries t x.0.tag x.2);
    others_name = λ i v b a. absurd (omega arith);
  }
  listing_found p t ts (Some l) f k h = let r = right_of l f.0 in listing_on p t ts l r (l.element, r, carries_tag t l.element.tag f.1) k h

  listing_means : (p : ℕ) (ts : List ℕ) → ListingMeans p ts (listing (all_listed q) p ts)
  listing_means p [] = (Pairwise.none, tt)
  listing_means p (t ∷ ts) =
      listing_found p t ts (found (carries t) (all_listed q)) (finds (carries t) (all_listed q)) (listing (all_listed q) (p + 1) ts)
      (listing_means (p + 1) ts)

  abbrev pub ReferenceMeans : ℕ → Listing → Type 0
  ReferenceMeans r (lists ls) = Lists q r (numbers ls) × AllByRecursion (Right q) ls
  ReferenceMeans r (unknown p) = IsUnknownTag q r p

  by_tags_means : (refs : List (List ℕ)) (r : ℕ) (ts : List ℕ) → q.references ≡ Some refs → At r ts refs → (k : Listing) → ListingMeans 0 ts k
      → ReferenceMeans r k
  by_tags_means refs r ts e a (lists ls) h = (Lists.by_tags e a h.0, h.1)
  by_tags_means refs r ts e a (unknown u) h =
      IsUnknownTag.unnamed e a (subst (λ n. At n h.tag ts) {x = h.position} {y = u} (omega (arith, h.place)) h.stands) h.names_none
      (λ i v b c. h.others_name i v (omega (arith, h.place)) c)

  reference_on : (r : ℕ) (k : Listing) (o : Option (List (List ℕ))) → q.references ≡ o → At r k (listings_by (all_listed q) o) → ReferenceMeans r k
  reference_on r k None e a = ⊎_elim
      (λ h. subst (ReferenceMeans r) (sym h.1) (
        subst (λ n. Lists q n (numbers (all_listed q))) (sym h.0) (Lists.every_element e every_number),
        all_from (Right q) (all_listed q)
            right_of,
      ))
      (λ h. absurd (at_nil h.2)) (at_cases a)
  reference_on r k (Some refs) e a =
      let x = of_at_map (listing (all_listed q) 0) r k refs a in
      subst (ReferenceMeans r) x.2 (by_tags_means refs r x.0 e x.1 (listing (all_listed q) 0 x.0) (listing_means 0 x.0))

  pub reference_means : (r : ℕ) (k : Listing) → At r k (listings q) → ReferenceMeans r k
  reference_means r k a = reference_on r k q.references refl a

  -- and back
  at_by : (refs : List (List ℕ)) (r : ℕ) (ts : List ℕ) (k : Listing) → q.references ≡ Some refs → At r ts refs → listing (all_listed q) 0 ts ≡ k
      → At r k (listings q)
  at_by refs r ts k e a h =
      subst (At r k) (sym (ap (listings_by (all_listed q)) e))
      (subst (λ j. At r j (map (listing (all_listed q) 0) refs)) h (at_map (listing (all_listed q) 0) a))

  module _ (apart : Sorted OtherTag q.elements) where
    abbrev ListedAs : ℕ → List ℕ → Type 0
    ListedAs r ns = (ls : List Listed) × At r (lists ls) (listings q) × (numbers ls ≡ ns) × AllByRecursion (Right q) ls

    lists_by : (refs : List (List ℕ)) (r : ℕ) (ts ns : List ℕ) → q.references ≡ Some refs → At r ts refs → Pairwise (Names q) ts ns
        → (k : Listing) → listing (all_listed q) 0 ts ≡ k → ListingMeans 0 ts k → ListedAs r ns
    lists_by refs r ts ns e a p (lists ls) h m = (ls, at_by refs r ts (lists ls) e a h, pairwise_same (Names q) (names_same q apart) m.0 p, m.1)
    lists_by refs r ts ns e a p (unknown u) h m = let x = pairwise_at (Names q) p m.stands in absurd (m.names_none x.0 x.2)

    pub lists_is : (r : ℕ) (ns : List ℕ) → Lists q r ns → ListedAs r ns
    lists_is r ns (Lists.every_element e f) = (
      all_listed q,
      subst (At 0 (lists (all_listed q))) (sym (ap (listings_by (all_listed q)) e)) At.first,
      same_places (numbers (all_listed q)) ns (λ p n a. (f p n).1 ((every_number p n).0 a)) (λ p n a. (every_number p n).1 ((f p n).0 a)),
      all_from (Right q) (all_listed q) right_of,
    )
    lists_is r ns (Lists.by_tags {references = refs} {tags} e a p) =
        lists_by refs r tags ns e a p (listing (all_listed q) 0 tags) refl (listing_means 0 tags)

    unknown_by : (refs : List (List ℕ)) (r p t : ℕ) (ts : List ℕ) → q.references ≡ Some refs → At r ts refs → At p t ts
        → ((n : ℕ) → Names q t n → ⊥) → ((i u : ℕ) → i < p → At i u ts → (n : ℕ) × Names q u n)
        → (k : Listing) → listing (all_listed q) 0 ts ≡ k → ListingMeans 0 ts k → At r (unknown p) (listings q)
    unknown_by refs r p t ts e a b none some (lists ls) h m = let x = pairwise_at (Names q) m.0 b in absurd (none x.0 x.2)
    unknown_by refs r p t ts e a b none some (unknown u) h m = ⊎_elim
        (λ l. let x = some m.position m.tag l m.stands in absurd (m.names_none x.0 x.1))
        (λ l. ⊎_elim
        (λ k. let x = m.others_name p t k b in absurd (none x.0 x.1))
        (λ k. subst (λ n. At r (unknown n) (listings q)) {x = u} {y = p} (omega (arith, m.place)) (at_by refs r ts (unknown u) e a h))
        (cases_lt p m.position))
        (cases_lt m.position p)

    pub unknown_is : (r p : ℕ) → IsUnknownTag q r p → At r (unknown p) (listings q)
    unknown_is r p (IsUnknownTag.unnamed {references = refs} {tags} {t} e a b none some) =
        unknown_by refs r p t tags e a b none some (listing (all_listed q) 0 tags) refl (listing_means 0 tags)
