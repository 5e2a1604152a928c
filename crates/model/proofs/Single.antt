-- A single request, opened again, has one row. Assumes nothing.
use Rattle.std.proofs.Common.{◌≡◌, ℕ, ◌+◌, Bool, true, false, cond, eqb, List, [], ◌∷◌, ◌++◌, map, length, Some, None, Ok, Option, sym, refl, ap, ◌∙◌, ap₂, ⊎_elim}
use mathlib.Core.List.Memᴰ
use mathlib.Core.List.{Memᴰ}
use Rattle.std.specs.List.{flat_map, AllByRecursion}
use Rattle.std.proofs.ByRecursion.{All-weaker}
use Rattle.std.proofs.lemmas.Bool.{or_from, eqb-true, eq-eqb, ne_eqb, cond-true, cond-false}
use Rattle.model.specs.Order.{Sorted}
use Rattle.model.specs.Content.{Element, Request, read_request}
use Rattle.model.specs.Spelling.{Between, ElementFits, OtherTag, RequestFits}
use Rattle.model.specs.Lists.{upto, any, keep}
use Rattle.model.specs.Tree.{Tree}
use Rattle.model.specs.Rows.{Listed, numbers_from, category_of, of_category, categories, width, widths, each_after, choices, taken, occurrences, in_turn, picked, chosen, scope, bare, put_bare, request_of, single_bytes, Spot, single_spot, scope_spots, resource_spots, resource, choice_spots, spots, itself}
use Rattle.model.proofs.Spelled.{accepted_exactly}
use Rattle.model.proofs.Members.{keep_none}
use Rattle.model.proofs.Positions.{none_some}
use Rattle.model.proofs.Picked.{Apart}

-- READ BACK

-- an accepted request is well-formed
pub request_fits : (bytes : List ℕ) (q : Request) → read_request bytes ≡ Ok q → RequestFits q
request_fits bytes q e = ((accepted_exactly bytes q).0 e).0

-- an element of a single request
pub record Plain (e : Element) : Type 0 where
  pub fits : ElementFits e
  pub no_tag : e.tag ≡ None

pub untagged_apart : (es : List Element) → AllByRecursion Plain es → Sorted OtherTag es
untagged_apart [] h = tt
untagged_apart (e ∷ es) h = (λ f m t p q. none_some e.tag t h.0.no_tag p, untagged_apart es h.1)

-- such elements, spelled, are read back
pub reads_back : (es : List Element) → AllByRecursion Plain es → Between 1 16 (length es) → read_request (single_bytes es) ≡ Ok (request_of es)
reads_back es h n = (accepted_exactly (single_bytes es) (request_of es)).1 (
  record { as_many = n; elements = All-weaker Plain ElementFits (λ e p. p.fits) es h; tags = untagged_apart es h; references = tt },
  refl,
)

-- OF DISTINCT CATEGORIES THERE IS ONE CHOICE, WHICH TAKES ALL

abbrev pub zeros : List Listed → List ℕ
zeros ls = map (λ _. 0) ls

categories_all : (seen : List ℕ) (ls : List Listed) → Sorted Apart ls → ((m : Listed) → Memᴰ m ls → any (eqb (category_of m)) seen ≡ false)
    → categories seen ls ≡ map category_of ls
categories_all seen [] s f = refl
categories_all seen (l ∷ ls) s f =
    let k = category_of l in
    let unseen : (m : Listed) → Memᴰ m ls → any (eqb (category_of m)) (k ∷ seen) ≡ false = λ m h.
    or_from (eqb (category_of m) k) (any (eqb (category_of m)) seen) (ne_eqb (category_of m) k (λ e. s.0 m h (sym e))) (f m (Memᴰ.tail h)) in
    cond-false (any (eqb k) seen) (categories seen ls) (k ∷ categories (k ∷ seen) ls) (f l (Memᴰ.head refl))
    ∙ ap (λ (t : List ℕ). k ∷ t) (categories_all (k ∷ seen) ls s.1 unseen)

one_wide : (ls : List Listed) → Sorted Apart ls → (m : Listed) → Memᴰ m ls → width ls (category_of m) ≡ 1
one_wide [] s m h = absurd (Memᴰ.not-nil h)
one_wide (l ∷ ls) s m h =
    let c = category_of m in
    let others = keep (of_category c) ls in
    ⊎_elim
    (λ q.
    let same : category_of l ≡ c = ap category_of (sym q) in
    ap length (cond-true (eqb (category_of l) c) (l ∷ others) others (eq-eqb (category_of l) c same))
    ∙ ap (λ (t : List Listed). length (l ∷ t)) (keep_none (of_category c) ls (λ x n e. s.0 x n (same ∙ sym (eqb-true (category_of x) c e)))))
    (λ t.
    ap length (cond-false (eqb (category_of l) c) (l ∷ others) others (ne_eqb (category_of l) c (s.0 m t)))
    ∙ one_wide ls s.1 m t)
    (Memᴰ.cases_cons h)

all_ones : (f : ℕ → ℕ) (ls : List Listed) → ((m : Listed) → Memᴰ m ls → f (category_of m) ≡ 1) → map f (map category_of ls) ≡ map (λ _. 1) ls
all_ones f [] h = refl
all_ones f (l ∷ ls) h = ap₂ (λ (x : ℕ) (y : List ℕ). x ∷ y) (h l (Memᴰ.head refl)) (all_ones f ls (λ m n. h m (Memᴰ.tail n)))

choices_of_ones : (ls : List Listed) → choices (map (λ _. 1) ls) ≡ zeros ls ∷ []
choices_of_ones [] = refl
choices_of_ones (l ∷ ls) = ap (λ cs. flat_map (each_after cs) (upto 0 1)) (choices_of_ones ls)

choices_one : (ls : List Listed) → Sorted Apart ls → choices (widths ls) ≡ zeros ls ∷ []
choices_one ls s =
    ap choices (ap (map (width ls)) (categories_all [] ls s (λ m h. refl)) ∙ all_ones (width ls) ls (one_wide ls s)) ∙ choices_of_ones ls

taken_zero : (cs : List ℕ) (ls : List Listed) (c : ℕ) → taken cs (zeros ls) c ≡ 0
taken_zero [] ls c = refl
taken_zero (k ∷ ks) [] c = refl
taken_zero (k ∷ ks) (l ∷ ls) c = step (eqb k c) (taken_zero ks ls c)
  where
    step : (b : Bool) → taken ks (zeros ls) c ≡ 0 → cond b 0 (taken ks (zeros ls) c) ≡ 0
    step true e = refl
    step false e = e

picked_all : (cs : List ℕ) (zs : List Listed) (earlier : List ℕ) (ls : List Listed) → Sorted Apart ls
    → ((m : Listed) → Memᴰ m ls → occurrences (category_of m) earlier ≡ 0) → picked cs (zeros zs) earlier ls ≡ ls
picked_all cs zs earlier [] s f = refl
picked_all cs zs earlier (l ∷ ls) s f =
    let k = category_of l in
    let rest = picked cs (zeros zs) (k ∷ earlier) ls in
    let turn = f l (Memᴰ.head refl) ∙ sym (taken_zero cs zs k) in
    let none_yet : (m : Listed) → Memᴰ m ls → occurrences (category_of m) (k ∷ earlier) ≡ 0 = λ m h.
    let n = occurrences (category_of m) earlier in
    cond-false (eqb k (category_of m)) (1 + n) n (ne_eqb k (category_of m) (s.0 m h)) ∙ f m (Memᴰ.tail h) in
    cond-true (in_turn cs (zeros zs) earlier l) (l ∷ rest) rest (eq-eqb (occurrences k earlier) (taken cs (zeros zs) k) turn)
    ∙ ap (λ (t : List Listed). l ∷ t) (picked_all cs zs (k ∷ earlier) ls s.1 none_yet)

chosen_all : (ls : List Listed) → Sorted Apart ls → chosen ls (zeros ls) ≡ ls
chosen_all ls s = picked_all (categories [] ls) ls [] ls s (λ m h. refl)

-- ONE ROW

-- the resource element, if there is one, is asked for as it stands
abbrev pub Whole : Tree → Option Listed → Type 0
Whole tree None = Unit {0}
Whole tree (Some l) = scope tree l.element ≡ itself

module _ (tree : Tree) where
  one_on : (ps : List ℕ) (ls : List Listed) (o : Option Listed) → Whole tree o → resource_spots tree 0 ps ls o ≡ single_spot tree 0 ps ls None ∷ []
  one_on ps ls None w = refl
  one_on ps ls (Some l) w = ap (scope_spots tree 0 ps ls l.number) w

  one_choice : (ls : List Listed) → Sorted Apart ls → Whole tree (resource ls)
      → choice_spots tree 0 ls (zeros ls) ≡ single_spot tree 0 (zeros ls) ls None ∷ []
  one_choice ls s w = ap (λ ks. resource_spots tree 0 (zeros ls) ks (resource ks)) (chosen_all ls s) ∙ one_on (zeros ls) ls (resource ls) w

  pub one_spot : (es : List Element) → Sorted Apart (numbers_from 0 es) → Whole tree (resource (numbers_from 0 es))
      → spots (request_of es) tree ≡ single_spot tree 0 (zeros (numbers_from 0 es)) (numbers_from 0 es) None ∷ []
  one_spot es s w =
      ap (λ cs. flat_map (choice_spots tree 0 (numbers_from 0 es)) cs ++ []) (choices_one (numbers_from 0 es) s)
      ∙ ap (λ (x : List Spot). x ++ [] ++ []) (one_choice (numbers_from 0 es) s w)

-- THE SAME ELEMENTS

bare_itself : (e : Element) → e.tag ≡ None → bare e ≡ e
bare_itself e t = ap (λ (o : Option ℕ). record { category = e.category; tag = o; attributes = e.attributes }) (sym t)

pub same_elements : (i : ℕ) (es : List Element) → AllByRecursion Plain es → map put_bare (numbers_from i es) ≡ es
same_elements i [] h = refl
same_elements i (e ∷ es) h = ap₂ (λ (x : Element) (y : List Element). x ∷ y) (bare_itself e h.0.no_tag) (same_elements (i + 1) es h.1)
