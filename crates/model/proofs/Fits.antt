-- The single request of each row is within the ranges, of distinct categories and asks for nothing below. Assumes nothing.
use Rattle.std.proofs.Common.{◌≡◌, ℕ, suc, ◌+◌, ◌≤◌, Bool, true, false, cond, eqb, List, [], ◌∷◌, map, length, get_or, Some, None, Option, sym, refl, ap, ◌∙◌, subst, ⊎_elim, arith}
use mathlib.Core.List.Memᴰ
use mathlib.Core.List.{Memᴰ}
use lib.ListN.{length-map}
use Rattle.std.specs.List.{AllByRecursion}
use Rattle.std.proofs.ByRecursion.{All-map, All-weaker}
use Rattle.std.proofs.lemmas.Bool.{both_ways, not-true, eqb-true}
use Rattle.model.specs.Order.{Sorted}
use Rattle.model.specs.Content.{Attribute, Element, Request}
use Rattle.model.specs.Spelling.{WhenSome, AttributeFits, ElementFits, ReferenceFits, ReferencesFit, RequestFits}
use Rattle.model.specs.Lists.{keep, found, At}
use Rattle.model.specs.Tree.{Tree, Limits}
use Rattle.model.specs.Rows.{Listed, numbers_from, all_listed, carries, Listing, before, listed_next, listing, listings_by, listings, category_of, categories, widths, chosen, has_id, with_id, scope_by_attributes, scope, bare, with_value, named, not_scope, resource_named, for_node, put_bare, put_named, Basis, Spot, resource, lists, unknown, itself, fault, single}
use Rattle.model.proofs.Members.{of_keep, keep_none, keep_length, all_from, all_in, all_keep}
use Rattle.model.proofs.Positions.{at_mem}
use Rattle.model.proofs.Distances.{ends_at_node}
use Rattle.model.proofs.Choices.{Within}
use Rattle.model.proofs.Asked.{asked_node}
use Rattle.model.proofs.SpotOf.{IsSpotOf}
use Rattle.model.proofs.Picked.{Apart, mem_picked, length_picked, apart_picked, some_chosen}
use Rattle.model.proofs.Single.{Plain, Whole}

abbrev pub Fits : Listed → Type 0
Fits l = ElementFits l.element

-- WHAT A REFERENCE LISTS

abbrev pub FitListing : Listing → Type 0
FitListing (unknown p) = Unit {0}
FitListing (lists ls) = AllByRecursion Fits ls × (1 ≤ length ls) × (length ls ≤ 16)

numbers_fit : (i : ℕ) (es : List Element) → AllByRecursion ElementFits es → AllByRecursion Fits (numbers_from i es)
numbers_fit i [] h = tt
numbers_fit i (e ∷ es) h = (h.0, numbers_fit (i + 1) es h.1)

length_numbers : (i : ℕ) (es : List Element) → length (numbers_from i es) ≡ length es
length_numbers i [] = refl
length_numbers i (e ∷ es) = ap suc (length_numbers (i + 1) es)

abbrev FoundFits : Option Listed → Type 0
FoundFits None = Unit {0}
FoundFits (Some l) = Fits l

found_step : (l : Listed) (o : Option Listed) (b : Bool) → Fits l → FoundFits o → FoundFits (cond b (Some l) o)
found_step l o true h f = h
found_step l o false h f = f

found_fits : (p : Listed → Bool) (ls : List Listed) → AllByRecursion Fits ls → FoundFits (found p ls)
found_fits p [] h = tt
found_fits p (l ∷ ls) h = found_step l (found p ls) (p l) h.0 (found_fits p ls h.1)

abbrev AsLong : ℕ → Listing → Type 0
AsLong n (unknown p) = Unit {0}
AsLong n (lists ls) = AllByRecursion Fits ls × (length ls ≡ n)

before_fits : (l : Listed) (n : ℕ) (k : Listing) → Fits l → AsLong n k → AsLong (suc n) (before l k)
before_fits l n (lists ls) h a = ((h, a.0), ap suc a.1)
before_fits l n (unknown p) h a = tt

listing_step : (n p : ℕ) (k : Listing) (o : Option Listed) → FoundFits o → AsLong n k → AsLong (suc n) (listed_next p o k)
listing_step n p k None f a = tt
listing_step n p k (Some l) f a = before_fits l n k f a

listing_fits : (es : List Listed) → AllByRecursion Fits es → (p : ℕ) (ts : List ℕ) → AsLong (length ts) (listing es p ts)
listing_fits es h p [] = (tt, refl)
listing_fits es h p (t ∷ ts) =
    listing_step (length ts) p (listing es (p + 1) ts) (found (carries t) es) (found_fits (carries t) es h) (listing_fits es h (p + 1) ts)

as_long_fits : (n : ℕ) (k : Listing) → (1 ≤ n) × (n ≤ 16) → AsLong n k → FitListing k
as_long_fits n (lists ls) h a = (a.0, omega arith, omega arith)
as_long_fits n (unknown p) h a = tt

pub listings_fit : (q : Request) → RequestFits q → AllByRecursion FitListing (listings q)
listings_fit q f = on q.references f.references
  where
    listed : AllByRecursion Fits (all_listed q)
    listed = numbers_fit 0 q.elements f.elements

    on : (o : Option (List (List ℕ))) → WhenSome ReferencesFit o → AllByRecursion FitListing (listings_by (all_listed q) o)
    on None h = let l = length_numbers 0 q.elements in let b = f.as_many in ((listed, omega arith, omega arith), tt)
    on (Some refs) h = All-map FitListing (listing (all_listed q) 0) refs (
        All-weaker ReferenceFits (λ ts. FitListing (listing (all_listed q) 0 ts))
        (λ ts r. as_long_fits (length ts) (listing (all_listed q) 0 ts) r.as_many (listing_fits (all_listed q) listed 0 ts)) refs h.each
        )

-- THE ELEMENTS OF A SINGLE REQUEST

plain_bare : (e : Element) → ElementFits e → Plain (bare e)
plain_bare e f = record { fits = record { category = f.category; tag = tt; few = f.few; attributes = f.attributes }; no_tag = refl }

fit_named : (t : List ℕ) (a : Attribute) → length t ≤ 64 → AttributeFits a → AttributeFits (named t a)
fit_named t a l f = step (eqb a.id 1)
  where
    step : (b : Bool) → AttributeFits (cond b (with_value t a) a)
    step true = record { id = f.id; type = f.type; issuer = f.issuer; value = l }
    step false = f

id_named : (t : List ℕ) (a : Attribute) → (named t a).id ≡ a.id
id_named t a = step (eqb a.id 1)
  where
    step : (b : Bool) → (cond b (with_value t a) a).id ≡ a.id
    step true = refl
    step false = refl

plain_node : (t : List ℕ) (e : Element) → length t ≤ 64 → ElementFits e → Plain (resource_named t e)
plain_node t e l f = record {
  fits = record {
    category = (omega arith, omega arith);
    tag = tt;
    attributes =
        All-map AttributeFits (named t) (keep not_scope e.attributes)
        (All-weaker AttributeFits (λ a. AttributeFits (named t a)) (λ a. fit_named t a l) (keep not_scope e.attributes)
        (all_keep AttributeFits not_scope e.attributes f.attributes));
    few = omega (arith, f.few, length-map (keep not_scope e.attributes) (named t), keep_length not_scope e.attributes);
  };
  no_tag = refl;
}

plain_for_node : (t : List ℕ) (e : Element) → length t ≤ 64 → ElementFits e → Plain (for_node t e)
plain_for_node t e l f = step (eqb e.category 1)
  where
    step : (b : Bool) → Plain (cond b (resource_named t e) (bare e))
    step true = plain_node t e l f
    step false = plain_bare e f

category_for_node : (t : List ℕ) (e : Element) → (for_node t e).category ≡ e.category
category_for_node t e = step (eqb e.category 1) refl
  where
    step : (b : Bool) → eqb e.category 1 ≡ b → (cond b (resource_named t e) (bare e)).category ≡ e.category
    step true q = sym (eqb-true e.category 1 q)
    step false q = refl

-- for a node no scope is left
scopeless : (t : List ℕ) (e : Element) → with_id 2 (resource_named t e).attributes ≡ []
scopeless t e = keep_none (has_id 2) (map (named t) (keep not_scope e.attributes)) (λ x m q.
    let r = Memᴰ.of_map (named t) (keep not_scope e.attributes) m in
    let k = of_keep not_scope r.0 e.attributes r.1 in
    both_ways (eqb r.0.id 2) (not-true (eqb r.0.id 2) k.1)
    (ap (λ i. eqb i 2) (sym (id_named t r.0) ∙ ap (λ (a : Attribute). a.id) r.2) ∙ q))

scope_for_node : (tree : Tree) (t : List ℕ) (e : Element) → eqb (for_node t e).category 1 ≡ true → scope tree (for_node t e) ≡ itself
scope_for_node tree t e h = step (eqb e.category 1) refl h
  where
    step : (b : Bool) → eqb e.category 1 ≡ b → eqb (cond b (resource_named t e) (bare e)).category 1 ≡ true
        → scope tree (cond b (resource_named t e) (bare e)) ≡ itself
    step true q k = ap (scope_by_attributes tree (with_id 1 (resource_named t e).attributes)) (scopeless t e)
    step false q k = absurd (both_ways (eqb e.category 1) q k)

-- THE RESOURCE STANDS FOR ITSELF

module _ (tree : Tree) where
  whole_bare : (i : ℕ) (ls : List Listed) → Whole tree (resource ls) → Whole tree (resource (numbers_from i (map put_bare ls)))
  whole_bare i [] w = tt
  whole_bare i (l ∷ ls) w = step (eqb (category_of l) 1) w (whole_bare (i + 1) ls)
    where
      step : (b : Bool) → Whole tree (cond b (Some l) (resource ls))
          → (Whole tree (resource ls) → Whole tree (resource (numbers_from (i + 1) (map put_bare ls))))
          → Whole tree (cond b (Some (record { number = i; element = bare l.element })) (resource (numbers_from (i + 1) (map put_bare ls))))
      step true v f = v
      step false v f = f v

  whole_node : (t : List ℕ) (i : ℕ) (ls : List Listed) → Whole tree (resource (numbers_from i (map (put_named t) ls)))
  whole_node t i [] = tt
  whole_node t i (l ∷ ls) = step (eqb (for_node t l.element).category 1) refl (whole_node t (i + 1) ls)
    where
      step : (b : Bool) → eqb (for_node t l.element).category 1 ≡ b → Whole tree (resource (numbers_from (i + 1) (map (put_named t) ls)))
          → Whole tree (cond b (Some (record { number = i; element = for_node t l.element }))
          (resource (numbers_from (i + 1) (map (put_named t) ls))))
      step true q f = scope_for_node tree t l.element q
      step false q f = f

-- THE CATEGORIES ARE DISTINCT

module _ (f : Listed → Element) (same : (l : Listed) → (f l).category ≡ category_of l) where
  of_numbers : (i : ℕ) (ls : List Listed) (m : Listed) → Memᴰ m (numbers_from i (map f ls))
      → (l : Listed) × Memᴰ l ls × (category_of m ≡ category_of l)
  of_numbers i [] m h = absurd (Memᴰ.not-nil h)
  of_numbers i (l ∷ ls) m h =
      ⊎_elim {C = (k : Listed) × Memᴰ k (l ∷ ls) × (category_of m ≡ category_of k)}
      (λ e. (l, Memᴰ.head refl, ap category_of e ∙ same l)) (λ t. let r = of_numbers (i + 1) ls m t in (r.0, Memᴰ.tail r.1, r.2))
      (Memᴰ.cases_cons h)

  apart_numbers : (i : ℕ) (ls : List Listed) → Sorted Apart ls → Sorted Apart (numbers_from i (map f ls))
  apart_numbers i [] s = tt
  apart_numbers i (l ∷ ls) s =
      (λ m h e. let r = of_numbers (i + 1) ls m h in s.0 r.0 r.1 (sym (same l) ∙ (e ∙ r.2)), apart_numbers (i + 1) ls s.1)

-- THE SINGLE REQUEST OF EACH ROW

pub record Proper (tree : Tree) (es : List Element) : Type 0 where
  pub plain : AllByRecursion Plain es
  pub as_many : (1 ≤ length es) × (length es ≤ 16)
  pub distinct : Sorted Apart (numbers_from 0 es)
  pub as_it_stands : Whole tree (resource (numbers_from 0 es))

abbrev pub ProperBasis : Tree → Basis → Type 0
ProperBasis tree (fault c p) = Unit {0}
ProperBasis tree (single es) = Proper tree es

module _ (q : Request) (tree : Tree) (limits : Limits tree) (fits : RequestFits q) where
  module _ (r : ℕ) (ls : List Listed) (at : At r (lists ls) (listings q)) (ps : List ℕ) (c : Within ps (widths ls)) where
    listed_fit : FitListing (lists ls)
    listed_fit = all_in FitListing (listings q) (listings_fit q fits) (lists ls) (at_mem at)

    chosen_fit : AllByRecursion Fits (chosen ls ps)
    chosen_fit = all_from Fits (chosen ls ps) (λ l m. all_in Fits ls listed_fit.0 l (mem_picked (categories [] ls) ps [] ls l m))

    as_many_chosen : (f : Listed → Element) → (1 ≤ length (map f (chosen ls ps))) × (length (map f (chosen ls ps)) ≤ 16)
    as_many_chosen f =
        let n = length-map (chosen ls ps) f in
        let a = some_chosen ls ps listed_fit.1 c in
        let b = length_picked (categories [] ls) ps [] ls in
        let k = listed_fit.2 in
        (omega arith, omega arith)

    proper_whole : Whole tree (resource (chosen ls ps)) → Proper tree (map put_bare (chosen ls ps))
    proper_whole w = record {
      plain =
          All-map Plain put_bare (chosen ls ps) (All-weaker Fits (λ l. Plain (bare l.element)) (λ l. plain_bare l.element) (chosen ls ps)
          chosen_fit);
      as_many = as_many_chosen put_bare;
      distinct = apart_numbers put_bare (λ l. refl) 0 (chosen ls ps) (apart_picked (categories [] ls) ps [] ls);
      as_it_stands = whole_bare tree 0 (chosen ls ps) w;
    }

    proper_node : (t : List ℕ) → length t ≤ 64 → Proper tree (map (put_named t) (chosen ls ps))
    proper_node t h = record {
      plain =
          All-map Plain (put_named t) (chosen ls ps)
          (All-weaker Fits (λ l. Plain (for_node t l.element)) (λ l. plain_for_node t l.element h) (chosen ls ps) chosen_fit);
      as_many = as_many_chosen (put_named t);
      distinct = apart_numbers (put_named t) (λ l. category_for_node t l.element) 0 (chosen ls ps) (apart_picked (categories [] ls) ps [] ls);
      as_it_stands = whole_node tree t 0 (chosen ls ps);
    }

  pub proper_spot : (s : Spot) (d : ℕ) → IsSpotOf q tree s d → ProperBasis tree s.basis
  proper_spot s d (IsSpotOf.bad_reference at) = tt
  proper_spot s d (IsSpotOf.no_resource {r} {ls} {ps} at c e) = proper_whole r ls at ps c (subst (Whole tree) (sym e) tt)
  proper_spot s d (IsSpotOf.bad_scope at c e k) = tt
  proper_spot s d (IsSpotOf.whole {r} {ls} {ps} at c e k) = proper_whole r ls at ps c (subst (Whole tree) (sym e) k)
  proper_spot s d (IsSpotOf.at_node {r} {a} {n} {d = j} {ls} {ps} {l} {x} at c e k h i) =
      proper_node r ls at ps c (get_or tree.names n [])
      (limits.few_bytes n (ends_at_node tree a limits n j (asked_node tree l.element x a k) h.0))
