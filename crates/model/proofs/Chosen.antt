-- Categories, choices and chosen elements, as the relations Categories, Choice and Chosen say. Assumes nothing.
use Rattle.std.proofs.Common.{◌≡◌, ℕ, zero, suc, ◌+◌, ◌<◌, ◌≤◌, true, false, eqb, ◌⊎◌, List, [], ◌∷◌, map, length, sym, refl, ap, ◌∙◌, subst, inl, inr, arith}
use mathlib.Core.List.Memᴰ
use mathlib.Core.List.{Memᴰ}
use Rattle.std.specs.List.{AllByRecursion}
use Rattle.std.proofs.lemmas.Bool.{eqb-true, eqb-false, eq-eqb, cases_Bool}
use Rattle.model.specs.Order.{Sorted}
use Rattle.model.specs.Content.{Element, Request}
use Rattle.model.specs.Lists.{At, Pairwise}
use Rattle.model.specs.Rows.{Listed, category_of, categories, width, widths, taken, chosen}
use Rattle.model.specs.Meaning.{Lists, ListedAt, Has, First, Categories, Earlier, Nth, Choice, Chosen, Chooses}
use Rattle.model.proofs.Members.{sorted_map, mem_keep, of_keep, sorted_keep, all_in}
use Rattle.model.proofs.Positions.{at_same, at_mem, mem_at, at_below, below_at, at_map, of_at_map, pairwise_at, pairwise_same, pairwise_maps, sorted_at, sorted_from, same_sorted}
use Rattle.model.proofs.Choices.{Within}
use Rattle.model.proofs.Named.{Right, numbers}
use Rattle.model.proofs.Categories.{StandsAt, FirstAt, counted, counted_in, counted_out, width_of, of_width, first_same, Sooner, sooner_apart, appears, all_appear, sorted_categories, distinct_categories}
use Rattle.model.proofs.Taken.{taken_is, positions, in_positions, position_of, Lower, sorted_positions, chosen_at, places, chosen_places}

-- `ls` are elements of the request q, each with its right number: the relations speak of their numbers `ns`

abbrev pub numbered_pair : Listed → ℕ × Element
numbered_pair l = (l.number, l.element)

module _ (q : Request) (ls : List Listed) (right : AllByRecursion (Right q) ls) where
  abbrev ns : List ℕ
  ns = numbers ls

  abbrev cs : List ℕ
  cs = categories [] ls

  listed_of : {p : ℕ} {l : Listed} → At p l ls → ListedAt q ns p l.number l.element
  listed_of {p} {l} a = (at_map (λ (x : Listed). x.number) a, all_in (Right q) ls right l (at_mem a))

  of_listed : (p n : ℕ) (e : Element) → ListedAt q ns p n e → (l : Listed) × At p l ls × (l.number ≡ n) × (l.element ≡ e)
  of_listed p n e h =
      let x = of_at_map (λ (l : Listed). l.number) p n ls h.0 in
      (x.0, x.1, x.2, at_same (all_in (Right q) ls right x.0 (at_mem x.1)) (subst (λ k. At k e q.elements) (sym x.2) h.1))

  has_of : (c p : ℕ) → StandsAt ls c p → Has q ns c p
  has_of c p h = (h.0.number, (h.0.element, listed_of h.1, h.2))

  of_has : (c p : ℕ) → Has q ns c p → StandsAt ls c p
  of_has c p h = let x = of_listed p h.0 h.1.0 h.1.1 in (x.0, x.1, ap (λ (e : Element). e.category) x.3 ∙ h.1.2)

  first_of : (c p : ℕ) → FirstAt ls c p → First q ns c p
  first_of c p f = (has_of c p f.0, λ i b h. f.1 i b (of_has c i h))

  of_first : (c p : ℕ) → First q ns c p → FirstAt ls c p
  of_first c p f = (of_has c p f.0, λ i b h. f.1 i b (has_of c i h))

  earlier_is : (c : ℕ) {p i : ℕ} → Earlier q ns c p i → i ≡ counted c p ls
  earlier_is c Earlier.none_yet = refl
  earlier_is c (Earlier.one_more {p} {i} e h) = let s = of_has c p h in omega (arith, earlier_is c e, counted_in c s.1 s.2)
  earlier_is c (Earlier.another {p} {i} {d} e h n) =
      let s = of_has d p h in
      omega (arith, earlier_is c e, counted_out c s.1 (λ k. n (sym s.2 ∙ k)))

  earlier_of : (c p : ℕ) → p ≤ length ls → Earlier q ns c p (counted c p ls)
  earlier_of c zero b = Earlier.none_yet
  earlier_of c (suc p) b = let x = below_at p ls b in step x.0 x.1 (cases_Bool (eqb (category_of x.0) c)) (earlier_of c p (omega arith))
    where
      step : (l : Listed) → At p l ls → (eqb (category_of l) c ≡ true) ⊎ (eqb (category_of l) c ≡ false) → Earlier q ns c p (counted c p ls)
          → Earlier q ns c (suc p) (counted c (suc p) ls)
      step l a (inl e) r =
          let k = eqb-true (category_of l) c e in
          subst (Earlier q ns c (suc p)) {x = suc (counted c p ls)} {y = counted c (suc p) ls} (omega (arith, counted_in c a k))
          (Earlier.one_more r (has_of c p (l, a, k)))
      step l a (inr e) r =
          let k = eqb-false (category_of l) c e in
          subst (Earlier q ns c (suc p)) (sym (counted_out c a k)) (Earlier.another r (has_of (category_of l) p (l, a, refl)) k)

  nth_of : (c p i : ℕ) → StandsAt ls c p → counted c p ls ≡ i → Nth q ns c i p
  nth_of c p i h e = (has_of c p h, subst (Earlier q ns c p) e (earlier_of c p (omega (arith, at_below h.1))))

  -- THE CATEGORIES

  categories_of : Categories q ns cs
  categories_of = record {
    appear = λ k c a. let r = appears [] ls c (at_mem a) in (r.1.0, first_of c r.1.0 r.1.1);
    all = λ c p h. mem_at c cs (all_appear [] ls c p (of_has c p h) refl);
    in_order = λ j k c d p r a b l f g.
        let s = sorted_at (Sooner ls) (sorted_categories [] ls) l a b in
        let x = first_same ls c p s.here (of_first c p f) s.this_first in
        let y = first_same ls d r s.there (of_first d r g) s.that_first in
        omega (arith, s.earlier);
  }

  categories_is : (ds : List ℕ) → Categories q ns ds → ds ≡ cs
  categories_is ds k = same_sorted (Sooner ls) (sooner_apart ls) ds cs
      (sorted_from (Sooner ls) ds (λ i j c d l a b.
      let f = k.appear i c a in
      let g = k.appear j d b in
      record {
        here = f.0;
        there = g.0;
        this_first = of_first c f.0 f.1;
        that_first = of_first d g.0 g.1;
        earlier = k.in_order i j c d f.0 g.0 a b l f.1 g.1;
      }))
      (sorted_categories [] ls)
      (λ c m. let a = mem_at c ds m in let f = k.appear a.0 c a.1 in all_appear [] ls c f.0 (of_has c f.0 f.1.0) refl)
      (λ c m. let r = appears [] ls c m in at_mem (k.all c r.1.0 (has_of c r.1.0 r.1.1.0)).1)

  -- CHOICES

  abbrev One : ℕ → ℕ → Type 0
  One c i = (p : ℕ) × Nth q ns c i p

  choice_of : (ds ps : List ℕ) → Within ps (map (width ls) ds) → Pairwise One ds ps
  choice_of [] ps Within.nothing = Pairwise.none
  choice_of (d ∷ ds) ps (Within.one_more {p} {ps = rs} l c) =
      let x = of_width d p ls l in
      Pairwise.both (x.0, nth_of d x.0 p x.1 x.2) (choice_of ds rs c)

  choice_is : {ds ps : List ℕ} → Pairwise One ds ps → Within ps (map (width ls) ds)
  choice_is Pairwise.none = Within.nothing
  choice_is (Pairwise.both {x = d} {y = p} h r) =
      let s = of_has d h.0 h.1.0 in
      let e = earlier_is d h.1.1 in
      Within.one_more (omega (arith, width_of d s.1 s.2)) (choice_is r)

  -- CHOSEN ELEMENTS

  module _ (ps : List ℕ) (one : Pairwise One cs ps) where
    abbrev found_at : List ℕ
    found_at = map (λ (x : ℕ × Listed). x.0) (places ls ps)

    -- position p is the one that the choice takes of some category
    abbrev IsTaken : ℕ → Type 0
    IsTaken p = (k : ℕ) × ((c : ℕ) × ((i : ℕ) × (At k c cs × At k i ps × Nth q ns c i p)))

    taken_of : (p : ℕ) → Memᴰ p found_at → IsTaken p
    taken_of p m =
        let x = Memᴰ.of_map (λ (x : ℕ × Listed). x.0) (places ls ps) m in
        let y = of_keep (chosen_at ls cs ps) x.0 (positions 0 ls) x.1 in
        let a = position_of ls x.0 y.0 in
        let l = x.0.1 in
        let c = category_of l in
        let e = eqb-true (counted c x.0.0 ls) (taken cs ps c) y.1 in
        let k = mem_at c cs (all_appear [] ls c x.0.0 (l, a, refl) refl) in
        let i = pairwise_at One one k.1 in
        let t = taken_is c i.0 (distinct_categories ls) k.1 i.1 in
        (k.0, (c, (i.0, (k.1, i.1, subst (Nth q ns c i.0) x.2 (nth_of c x.0.0 i.0 (l, a, refl) (e ∙ t))))))

    of_taken : (p : ℕ) → IsTaken p → Memᴰ p found_at
    of_taken p h =
        let k = h.0 in
        let c = h.1.0 in
        let i = h.1.1.0 in
        let r = h.1.1.1 in
        let s = of_has c p r.2.0 in
        let e = earlier_is c r.2.1 in
        let t = taken_is c i (distinct_categories ls) r.0 r.1 in
        let l = s.0 in
        let turn : counted (category_of l) p ls ≡ taken cs ps (category_of l) =
        subst (λ d. counted d p ls ≡ taken cs ps d) (sym s.2) (sym e ∙ sym t) in
        let m = subst (λ n. Memᴰ {A = ℕ × Listed} (n, l) (positions 0 ls)) {x = 0 + p} {y = p} (omega arith) (in_positions 0 s.1) in
        Memᴰ.map (λ (x : ℕ × Listed). x.0) (mem_keep (chosen_at ls cs ps) (p, l) (positions 0 ls) m
        (eq-eqb (counted (category_of l) p ls) (taken cs ps (category_of l)) turn))

    sorted_found_at : Sorted (λ a b. a < b) found_at
    sorted_found_at =
        sorted_map (λ (x : ℕ × Listed). x.0) Lower (λ a b. a < b) (λ x y l. l) (places ls ps)
        (sorted_keep (chosen_at ls cs ps) Lower (positions 0 ls) (sorted_positions 0 ls))

    chosen_of : Chosen q ns cs ps found_at
    chosen_of = record { ordered = sorted_found_at; exactly = λ p. (taken_of p, of_taken p) }

    chosen_is : (xs : List ℕ) → Chosen q ns cs ps xs → xs ≡ found_at
    chosen_is xs k =
        same_sorted (λ a b. a < b) (λ x y l m. omega arith) xs found_at k.ordered sorted_found_at (λ p m. of_taken p ((k.exactly p).0 m))
        (λ p m. (k.exactly p).1 (taken_of p m))

    abbrev AtIt : ℕ → ℕ × Element → Type 0
    AtIt p e = ListedAt q ns p e.0 e.1

    elements_of : Pairwise AtIt found_at (map (λ (x : ℕ × Listed). numbered_pair x.1) (places ls ps))
    elements_of =
        pairwise_maps AtIt (λ (x : ℕ × Listed). x.0) (λ (x : ℕ × Listed). numbered_pair x.1) (places ls ps)
        (λ x m. listed_of (position_of ls x (of_keep (chosen_at ls cs ps) x (positions 0 ls) m).0))

    at_it_same : (p : ℕ) (e f : ℕ × Element) → AtIt p e → AtIt p f → e ≡ f
    at_it_same p e f a b =
        let n : e.0 ≡ f.0 = at_same a.0 b.0 in
        let v : e.1 ≡ f.1 = at_same a.1 (subst (λ k. At k f.1 q.elements) (sym n) b.1) in
        λ i. (n i, v i)

    -- the chosen elements with their numbers
    pairs_places : map numbered_pair (chosen ls ps) ≡ map (λ (x : ℕ × Listed). numbered_pair x.1) (places ls ps)
    pairs_places = ap (map numbered_pair) (chosen_places ls ps) ∙ again (places ls ps)
      where
        again : (xs : List (ℕ × Listed)) → map numbered_pair (map (λ (x : ℕ × Listed). x.1) xs) ≡ map (λ (x : ℕ × Listed). numbered_pair x.1) xs
        again [] = refl
        again (x ∷ xs) = ap (λ (t : List (ℕ × Element)). numbered_pair x.1 ∷ t) (again xs)

    elements_is : (es : List (ℕ × Element)) → Pairwise AtIt found_at es → es ≡ map numbered_pair (chosen ls ps)
    elements_is es p = pairwise_same AtIt at_it_same p elements_of ∙ sym pairs_places

    chooses_at : (r : ℕ) → Lists q r ns → Chooses q r ps (map numbered_pair (chosen ls ps))
    chooses_at r h = record {
      listed = ns;
      categories = cs;
      chosen = found_at;
      lists = h;
      choice = record { categories = categories_of; one_for_each = one };
      picks = chosen_of;
      elements = subst (Pairwise AtIt found_at) (sym pairs_places) elements_of;
    }

  pub chooses_of : (r : ℕ) (ps : List ℕ) → Lists q r ns → Within ps (widths ls) → Chooses q r ps (map numbered_pair (chosen ls ps))
  chooses_of r ps h c = chooses_at ps (choice_of cs ps c) r h

  pub chosen_only : (ds ps xs : List ℕ) (es : List (ℕ × Element)) → Choice q ns ds ps → Chosen q ns ds ps xs
      → Pairwise (λ p e. ListedAt q ns p e.0 e.1) xs es → Within ps (widths ls) × (es ≡ map numbered_pair (chosen ls ps))
  chosen_only ds ps xs es c k p =
      let d = categories_is ds c.categories in
      let one : Pairwise One cs ps = subst (λ (t : List ℕ). Pairwise One t ps) d c.one_for_each in
      let e = chosen_is ps one xs (subst (λ (t : List ℕ). Chosen q ns t ps xs) d k) in
      (choice_is one, elements_is ps one es (subst (λ (t : List ℕ). Pairwise (λ p e. ListedAt q ns p e.0 e.1) t es) e p))
