-- A single request of a request that bytes can hold is one that bytes can hold. Assumes nothing.
use Rattle.std.proofs.Common.{◌≡◌, ℕ, ◌<◌, ◌≤◌, Bool, eqb, List, [], ◌∷◌, map, length, Some, None, Option, sym, refl, ap, ◌∙◌, ap₂, arith}
use Rattle.std.specs.Option.{option_map}
use Rattle.std.specs.List.{AllByRecursion}
use Rattle.std.proofs.ByRecursion.{All-get_or, All-from_get_or}
use Rattle.std.proofs.lemmas.List.{take_all, length-map}
use Rattle.std.proofs.lemmas.Bool.{cond_both}
use Rattle.model.specs.Content.{Attribute, Element}
use Rattle.model.specs.Lists.{keep}
use Rattle.model.specs.Order.{Sorted}
use Rattle.model.specs.Rows.{bare, has_id, with_value, named, not_scope, resource_named, request_of, single_bytes}
use Rattle.model.specs.Spelling.{WhenSome, Between, AttributeFits, ElementFits, OtherTag, RequestFits}
use Rattle.model.proofs.Spelled.{accepted_exactly}
use Rattle.request.specs.Place.{content_of}
use Rattle.single.specs.declared.single.SingleRequest.{SingleRequest}
use Rattle.single.specs.Numbers.{blank, numbered, picked}
use Rattle.single.specs.Single.{name_of, put, numbers_of, chosen_of, content}
use Rattle.single.specs.Written.{cut, cut_attribute, cut_element, Spellable, Exact}
use Rattle.single.proofs.Numbers.{named_in}
use Rattle.single.proofs.Places.{nth_get_d}
use Rattle.single.proofs.Viewing.{content_length}

-- WHAT FITS IS NOT CUT

cut_none : {X : Type 0} (xs : List X) (n : ℕ) → n ≤ 64 → length xs ≤ n → cut xs ≡ xs
cut_none xs n h l = let o : length xs ≤ 255 = omega arith in take_all 255 xs o

issuer_whole : (o : Option (List ℕ)) → WhenSome (λ t. Between 1 64 (length t)) o → option_map cut o ≡ o
issuer_whole None h = refl
issuer_whole (Some t) h = ap Some (cut_none t 64 (omega arith) h.1)

attribute_whole : (a : Attribute) → AttributeFits a → cut_attribute a ≡ a
attribute_whole a h =
    let make : Option (List ℕ) → List ℕ → Attribute = λ i v. record { included = a.included; id = a.id; type = a.type; issuer = i; value = v } in
    ap₂ make (issuer_whole a.issuer h.issuer) (cut_none a.value 64 (omega arith) h.value)

attributes_whole : (xs : List Attribute) → AllByRecursion AttributeFits xs → map cut_attribute xs ≡ xs
attributes_whole [] h = refl
attributes_whole (x ∷ xs) h = ap₂ (λ y ys. y ∷ ys) (attribute_whole x h.0) (attributes_whole xs h.1)

element_whole : (e : Element) → e.tag ≡ None → ElementFits e → cut_element e ≡ e
element_whole e t h =
    let make : Option ℕ → List Attribute → Element = λ o xs. record { category = e.category; tag = o; attributes = xs } in
    ap₂ make (sym t) (ap (map cut_attribute) (cut_none e.attributes 8 (omega arith) h.few) ∙ attributes_whole e.attributes h.attributes)

abbrev pub Untagged : Element → Type 0
Untagged e = e.tag ≡ None

pub elements_whole : (es : List Element) → AllByRecursion Untagged es → AllByRecursion ElementFits es → map cut_element es ≡ es
elements_whole [] t h = refl
elements_whole (e ∷ es) t h = ap₂ (λ y ys. y ∷ ys) (element_whole e t.0 h.0) (elements_whole es t.1 h.1)

-- WHAT IS PUT FITS

kept_few : (p : Attribute → Bool) (xs : List Attribute) → length (keep p xs) ≤ length xs
kept_few p [] = omega arith
kept_few p (x ∷ xs) =
    let h = kept_few p xs in
    cond_both (p x) (x ∷ keep p xs) (keep p xs) (λ l. length l ≤ length (x ∷ xs)) (λ _. omega arith) (λ _. omega arith)

kept_all : (P : Attribute → Type 0) (p : Attribute → Bool) (xs : List Attribute) → AllByRecursion P xs → AllByRecursion P (keep p xs)
kept_all P p [] h = tt
kept_all P p (x ∷ xs) h = cond_both (p x) (x ∷ keep p xs) (keep p xs) (AllByRecursion P) (λ _. (h.0, kept_all P p xs h.1)) (λ _. kept_all P p xs h.1)

named_fits : (t : List ℕ) → length t ≤ 64 → (a : Attribute) → AttributeFits a → AttributeFits (named t a)
named_fits t l a h = cond_both (has_id 1 a) (with_value t a) a AttributeFits (λ _. record { id = h.id; type = h.type; issuer = h.issuer; value = l }) (λ _. h)

named_all : (t : List ℕ) → length t ≤ 64 → (xs : List Attribute) → AllByRecursion AttributeFits xs → AllByRecursion AttributeFits (map (named t) xs)
named_all t l [] h = tt
named_all t l (x ∷ xs) h = (named_fits t l x h.0, named_all t l xs h.1)

bare_fits : (e : Element) → ElementFits e → ElementFits (bare e)
bare_fits e h = record { category = h.category; tag = tt; few = h.few; attributes = h.attributes }

resource_fits : (t : List ℕ) → length t ≤ 64 → (e : Element) → ElementFits e → ElementFits (resource_named t e)
resource_fits t l e h =
    let n = length-map (keep not_scope e.attributes) (named t) in
    let k = kept_few not_scope e.attributes in
    record {
      category = (omega arith, omega arith);
      tag = tt;
      few = omega (arith, h.few);
      attributes = named_all t l (keep not_scope e.attributes) (kept_all AttributeFits not_scope e.attributes h.attributes);
    }

put_fits : (o : Option (List ℕ)) → WhenSome (λ t. length t ≤ 64) o → (e : Element) → ElementFits e → ElementFits (put o e)
put_fits None l e h = bare_fits e h
put_fits (Some t) l e h = cond_both (eqb e.category 1) (resource_named t e) (bare e) ElementFits (λ _. resource_fits t l e h) (λ _. bare_fits e h)

put_untagged : (o : Option (List ℕ)) (e : Element) → Untagged (put o e)
put_untagged None e = refl
put_untagged (Some t) e = cond_both (eqb e.category 1) (resource_named t e) (bare e) Untagged (λ _. refl) (λ _. refl)

all_put : (P : Element → Type 0) (f : Element → Element) (es : List Element) → ((e : Element) → P (f e)) → AllByRecursion P (map f es)
all_put P f [] h = tt
all_put P f (e ∷ es) h = (h e, all_put P f es h)

untagged_apart : (es : List Element) → AllByRecursion Untagged es → Sorted OtherTag es
untagged_apart [] h = tt
untagged_apart (e ∷ es) h = ((λ f m t is other. let z : ◌≡◌ {A = ℕ} 0 1 = cc (h.0, is) in omega arith), untagged_apart es h.1)

module _ (s : SingleRequest) (h : Spellable s) where
  abbrev all_elements : List Element
  all_elements = (content_of s.request.now).elements

  picked_fit : (ks : List ℕ) → AllByRecursion (λ k. k < length all_elements) ks → AllByRecursion ElementFits (map (put (name_of s)) (picked all_elements ks))
  picked_fit [] l = tt
  picked_fit (k ∷ ks) l =
      (put_fits (name_of s) h.name (numbered all_elements k) (All-get_or ElementFits all_elements k blank l.0 h.request.elements), picked_fit ks l.1)

  content_fits : AllByRecursion ElementFits (content s)
  content_fits = picked_fit (numbers_of s) (All-from_get_or (λ k. k < length all_elements) (numbers_of s) 0 (λ i l. named_in all_elements (numbers_of s) i _ s.numbers (sym (nth_get_d (numbers_of s) i 0 l))))

  content_untagged : AllByRecursion Untagged (content s)
  content_untagged = all_put Untagged (put (name_of s)) (chosen_of s) (put_untagged (name_of s))

  single_fits : RequestFits (request_of (content s))
  single_fits =
      let n = content_length s in
      record { as_many = (h.some, omega (arith, s.most)); elements = content_fits; tags = untagged_apart (content s) content_untagged; references = tt }

  is_exact : Exact s
  is_exact = record {
    spelled = ap single_bytes (elements_whole (content s) content_untagged content_fits);
    read_back = (accepted_exactly (single_bytes (content s)) (request_of (content s))).1 (single_fits, refl);
  }

pub exact : (s : SingleRequest) → Spellable s → Exact s
exact s h = is_exact s h
