-- Bytes are accepted as a request exactly where they are the spelling of a well-formed one. Assumes nothing.
use Rattle.std.proofs.Common.{◌≡◌, ℕ, zero, suc, ◌+◌, ◌≤◌, Bool, true, false, cond, not, eqb, List, [], ◌∷◌, ◌++◌, length, Some, None, Option, sym, refl, ap, ◌∙◌, subst, ap₂, ⊎_elim, append-nil, arith}
use mathlib.Core.List as list
use mathlib.Core.List.Memᴰ
use mathlib.Core.List.{Memᴰ}
use Rattle.std.specs.List.{AllByRecursion}
use Rattle.std.proofs.ByRecursion.{All-push}
use Rattle.std.proofs.lemmas.Bool.{eqb-true, eqb-false, eq-eqb, ne_eqb, or_parts, or_from, both_ways}
use Rattle.model.specs.declared.item.Kind.TheVariants as kind
use Rattle.model.specs.Layout.{Reader, ◌>>=◌, give, when, some, code, bit, text}
use Rattle.model.specs.Order.{Sorted}
use Rattle.model.specs.Content.{Attribute, Element, Request, attribute_fields, one_attribute, attribute_list, is_tag, carried, new_tag, element_fields, tag_of, one_element, element_list, one_tag, reference_fields, one_reference, reference_list, request_fields, read_request}
use Rattle.model.specs.Spelling.{Between, WhenSome, AttributeFits, ElementFits, ReferenceFits, ReferencesFit, OtherTag, RequestFits, flag, is_there, is_any, spell_some, spell_list, spell_text, spell_code, typed, spell_attribute, spell_element, spell_reference, spell_request, AcceptedExactly}
use Rattle.model.proofs.Giving.{Gives, gives_give, gives_within, gives_when, gives_unless, gives_weaker, gives_bind, gives_some, gives_code, gives_flags, gives_text, gives_list, accepted}
use Rattle.model.proofs.ReadingBack.{Reads, reads_give, reads_within, reads_there, reads_absent, reads_unless, reads_bind, reads_map, reads_some, reads_code, reads_flags, reads_text, reads_list, back}

-- MAPS: a map is the sum of its bits

abbrev pub of_bits : Bool → Bool → Bool → ℕ
of_bits a b c = flag a 1 + flag b 2 + flag c 4

abbrev of_two : Bool → Bool → ℕ
of_two a b = flag a 1 + flag b 2

pub sum_of_bits : (m : ℕ) → m ≤ 7 → m ≡ of_bits (bit 0 m) (bit 1 m) (bit 2 m)
sum_of_bits zero h = refl
sum_of_bits (suc zero) h = refl
sum_of_bits (suc (suc zero)) h = refl
sum_of_bits (suc (suc (suc zero))) h = refl
sum_of_bits (suc (suc (suc (suc zero)))) h = refl
sum_of_bits (suc (suc (suc (suc (suc zero))))) h = refl
sum_of_bits (suc (suc (suc (suc (suc (suc zero)))))) h = refl
sum_of_bits (suc (suc (suc (suc (suc (suc (suc zero))))))) h = refl
sum_of_bits (suc (suc (suc (suc (suc (suc (suc (suc m)))))))) h = absurd (omega arith)

sum_of_two : (m : ℕ) → m ≤ 3 → m ≡ of_two (bit 0 m) (bit 1 m)
sum_of_two zero h = refl
sum_of_two (suc zero) h = refl
sum_of_two (suc (suc zero)) h = refl
sum_of_two (suc (suc (suc zero))) h = refl
sum_of_two (suc (suc (suc (suc m)))) h = absurd (omega arith)

pub record Bits (a b c : Bool) : Type 0 where
  pub first : bit 0 (of_bits a b c) ≡ a
  pub second : bit 1 (of_bits a b c) ≡ b
  pub third : bit 2 (of_bits a b c) ≡ c
  pub small : of_bits a b c ≤ 7

pub bits : (a b c : Bool) → Bits a b c
bits true true true = record { first = refl; second = refl; third = refl; small = omega arith }
bits true true false = record { first = refl; second = refl; third = refl; small = omega arith }
bits true false true = record { first = refl; second = refl; third = refl; small = omega arith }
bits true false false = record { first = refl; second = refl; third = refl; small = omega arith }
bits false true true = record { first = refl; second = refl; third = refl; small = omega arith }
bits false true false = record { first = refl; second = refl; third = refl; small = omega arith }
bits false false true = record { first = refl; second = refl; third = refl; small = omega arith }
bits false false false = record { first = refl; second = refl; third = refl; small = omega arith }

pub record TwoBits (a b : Bool) : Type 0 where
  pub first : bit 0 (of_two a b) ≡ a
  pub second : bit 1 (of_two a b) ≡ b
  pub small : of_two a b ≤ 3

two_bits : (a b : Bool) → TwoBits a b
two_bits true true = record { first = refl; second = refl; small = omega arith }
two_bits true false = record { first = refl; second = refl; small = omega arith }
two_bits false true = record { first = refl; second = refl; small = omega arith }
two_bits false false = record { first = refl; second = refl; small = omega arith }

-- ATTRIBUTES

abbrev pub typed_as : ℕ → Bool
typed_as t = not (eqb t 1)

-- the type's field stands exactly where the type is not string
pub record TypeRead (b : Bool) (w : List ℕ) (t : ℕ) : Type 0 where
  pub fits : Between 1 255 t
  pub there : b ≡ typed_as t
  pub spelled : w ≡ cond b (spell_code t) []

pub gives_type : (b : Bool) → Gives (when b 1 (code 2 255)) (TypeRead b)
gives_type b = gives_when (TypeRead b) b 1 (code 2 255)
    (λ e. gives_weaker (λ w n. (w ≡ n ∷ []) × Between 2 255 n) (TypeRead b) (λ w t h. record {
      fits = (omega (arith, h.1), h.1.1);
      there = e ∙ sym (ap not (ne_eqb t 1 (λ q. omega (arith, h.1))));
      spelled = h.0 ∙ ap (λ c. cond c (t ∷ []) []) (sym e);
    }) (gives_code 2 255))
    (λ e. record { fits = (omega arith, omega arith); there = e; spelled = ap (λ c. cond c (1 ∷ []) []) (sym e) })

pub record IssuerRead (b : Bool) (w : List ℕ) (o : Option (List ℕ)) : Type 0 where
  pub fits : WhenSome (λ t. Between 1 64 (length t)) o
  pub there : b ≡ is_there o
  pub spelled : w ≡ spell_some spell_text o

pub gives_issuer : (b : Bool) → Gives (when b None (some (text 1 64))) (IssuerRead b)
gives_issuer b = gives_when (IssuerRead b) b None (some (text 1 64))
    (λ e. gives_some (λ w t. (w ≡ spell_text t) × Between 1 64 (length t)) (IssuerRead b) (λ w t h. record { fits = h.1; there = e; spelled = h.0 }) (text 1 64) (gives_text 1 64))
    (λ e. record { fits = tt; there = e; spelled = refl })

abbrev AttributeRead : List ℕ → Attribute → Type 0
AttributeRead w a = AttributeFits a × (w ≡ spell_attribute a)

-- what the fields of an attribute took is how it is spelled
module _ (m id type : ℕ) (issuer : Option (List ℕ)) (value w₁ w₂ w₃ w₄ w₅ : List ℕ) where
  abbrev made : Attribute
  made = record { included = bit 2 m; id = id; type = type; issuer = issuer; value = value }

  attribute_spelled : w₁ ≡ m ∷ [] → m ≤ 7 → w₂ ≡ id ∷ [] → TypeRead (bit 0 m) w₃ type → IssuerRead (bit 1 m) w₄ issuer → w₅ ≡ spell_text value
      → w₁ ++ (w₂ ++ (w₃ ++ (w₄ ++ (w₅ ++ [])))) ≡ spell_attribute made
  attribute_spelled e₁ h e₂ t i e₅ =
      let rest : w₃ ++ (w₄ ++ (w₅ ++ [])) ≡ cond (typed made) (spell_code type) [] ++ (spell_some spell_text issuer ++ spell_text value) =
      ap₂ (λ a b. a ++ b) (t.spelled ∙ ap (λ c. cond c (spell_code type) []) t.there) (ap₂ (λ a b. a ++ b) i.spelled (append-nil w₅ ∙ e₅)) in
      let map_is : m ≡ of_bits (typed made) (is_there issuer) (bit 2 m) = sum_of_bits m h ∙ ap₂ (λ a b. of_bits a b (bit 2 m)) t.there i.there in
      ap₂ (λ a b. a ++ b) e₁ (ap₂ (λ a b. a ++ b) e₂ rest) ∙ ap (λ n. n ∷ id ∷ (cond (typed made) (spell_code type) [] ++ (spell_some spell_text issuer ++ spell_text value))) map_is

gives_attribute : Gives attribute_fields AttributeRead
gives_attribute =
    let S = AttributeRead in
    gives_bind (λ w m. (w ≡ m ∷ []) × (m ≤ 7)) S (gives_flags 7) (λ m w₁ h₁.
    gives_bind (λ w n. (w ≡ n ∷ []) × Between 1 255 n) (λ v a. S (w₁ ++ v) a) (gives_code 1 255) (λ id w₂ h₂.
    gives_bind (TypeRead (bit 0 m)) (λ v a. S (w₁ ++ (w₂ ++ v)) a) (gives_type (bit 0 m)) (λ type w₃ h₃.
    gives_bind (IssuerRead (bit 1 m)) (λ v a. S (w₁ ++ (w₂ ++ (w₃ ++ v))) a) (gives_issuer (bit 1 m)) (λ issuer w₄ h₄.
    gives_bind (λ w t. (w ≡ spell_text t) × Between 0 64 (length t)) (λ v a. S (w₁ ++ (w₂ ++ (w₃ ++ (w₄ ++ v)))) a) (gives_text 0 64) (λ value w₅ h₅.
    gives_give (λ v a. S (w₁ ++ (w₂ ++ (w₃ ++ (w₄ ++ (w₅ ++ v))))) a) (made m id type issuer value w₁ w₂ w₃ w₄ w₅)
    (record { id = h₂.1; type = h₃.fits; issuer = h₄.fits; value = h₅.1.1 }, attribute_spelled m id type issuer value w₁ w₂ w₃ w₄ w₅ h₁.0 h₁.1 h₂.0 h₃ h₄ h₅.0))))))

pub reads_type : (b : Bool) (t : ℕ) → b ≡ typed_as t → Between 1 255 t → Reads (when b 1 (code 2 255)) (cond (typed_as t) (spell_code t) []) t
reads_type b t e h = on_test (eqb t 1) refl
  where
    on_test : (c : Bool) → eqb t 1 ≡ c → Reads (when b 1 (code 2 255)) (cond (not c) (spell_code t) []) t
    on_test true q = reads_absent b 1 (code 2 255) t (e ∙ ap not q) (sym (eqb-true t 1 q))
    on_test false q = let n : t ≡ 1 → ⊥ = eqb-false t 1 q in reads_there b 1 (code 2 255) (t ∷ []) t (e ∙ ap not q) (reads_code 2 255 t (omega arith, h.1))

pub reads_issuer : (b : Bool) (o : Option (List ℕ)) → b ≡ is_there o → WhenSome (λ t. Between 1 64 (length t)) o → Reads (when b None (some (text 1 64))) (spell_some spell_text o) o
reads_issuer b None e h = reads_absent b None (some (text 1 64)) None e refl
reads_issuer b (Some t) e h = reads_there b None (some (text 1 64)) (spell_text t) (Some t) e (reads_some (text 1 64) (spell_text t) t (reads_text 1 64 t h))

reads_attribute : (a : Attribute) → AttributeFits a → Reads attribute_fields (spell_attribute a) a
reads_attribute a f =
    let m = of_bits (typed a) (is_there a.issuer) a.included in
    let k = bits (typed a) (is_there a.issuer) a.included in
    let w₅ = spell_text a.value in
    let w₄ = spell_some spell_text a.issuer in
    let w₃ = cond (typed a) (spell_code a.type) [] in
    reads_bind _ (m ∷ []) (a.id ∷ (w₃ ++ (w₄ ++ w₅))) m (reads_flags 7 m k.small)
    (reads_bind _ (a.id ∷ []) (w₃ ++ (w₄ ++ w₅)) a.id (reads_code 1 255 a.id f.id)
    (reads_bind _ w₃ (w₄ ++ w₅) a.type (reads_type (bit 0 m) a.type k.first f.type)
    (reads_bind _ w₄ w₅ a.issuer (reads_issuer (bit 1 m) a.issuer k.second f.issuer)
    (subst (λ w. Reads (text 0 64 >>= λ value. give (record { included = bit 2 m; id = a.id; type = a.type; issuer = a.issuer; value = value })) w a) (append-nil w₅)
    (reads_bind _ w₅ [] a.value (reads_text 0 64 a.value (omega arith, f.value))
    (reads_give (record { included = bit 2 m; id = a.id; type = a.type; issuer = a.issuer; value = a.value }) a
    (ap (λ (b : Bool). record { included = b; id = a.id; type = a.type; issuer = a.issuer; value = a.value }) k.third)))))))

-- the attributes of an element; their list stands exactly where there is one
gives_attribute_list : Gives attribute_list (λ w ys. AllByRecursion AttributeFits ys × Between 1 8 (length ys) × (w ≡ spell_list spell_attribute ys))
gives_attribute_list = gives_list one_attribute spell_attribute (AllByRecursion AttributeFits)
    (λ i xs g. gives_weaker AttributeRead (λ w x. AllByRecursion AttributeFits (xs ++ x ∷ []) × (w ≡ spell_attribute x)) (λ w x h. (All-push AttributeFits xs x g h.0, h.1)) (gives_within AttributeRead kind.Attribute i attribute_fields gives_attribute))
    1 8 tt

module _ {X : Type 0} where
  pub all_at : (P : X → Type 0) (xs : List X) (x : X) (zs : List X) → AllByRecursion P (xs ++ x ∷ zs) → P x
  all_at P [] x zs h = h.0
  all_at P (y ∷ xs) x zs h = all_at P xs x zs h.1

  any_length : (xs : List X) → 1 ≤ length xs → is_any xs ≡ true
  any_length [] h = absurd (omega arith)
  any_length (x ∷ xs) h = refl

reads_attribute_list : (xs : List Attribute) → Between 1 8 (length xs) → AllByRecursion AttributeFits xs → Reads attribute_list (spell_list spell_attribute xs) xs
reads_attribute_list xs h g = reads_list one_attribute spell_attribute (AllByRecursion AttributeFits) (λ i ys y zs k. reads_within kind.Attribute i attribute_fields (spell_attribute y) y (reads_attribute y (all_at AttributeFits ys y zs k))) 1 8 xs h g

-- a list that stands exactly where it has an item
module _ {X : Type 0} (list : Reader (List X)) (Fits : X → Type 0) (spell : X → List ℕ) (high : ℕ) where
  abbrev pub spell_any : List X → List ℕ
  spell_any xs = cond (is_any xs) (spell_list spell xs) []

  pub record AnyRead (b : Bool) (w : List ℕ) (xs : List X) : Type 0 where
    pub fit : AllByRecursion Fits xs
    pub few : length xs ≤ high
    pub there : b ≡ is_any xs
    pub spelled : w ≡ spell_any xs

  pub gives_any : Gives list (λ w ys. AllByRecursion Fits ys × Between 1 high (length ys) × (w ≡ spell_list spell ys)) → (b : Bool) → Gives (when b [] list) (AnyRead b)
  gives_any g b = gives_when (AnyRead b) b [] list
      (λ e. gives_weaker (λ w ys. AllByRecursion Fits ys × Between 1 high (length ys) × (w ≡ spell_list spell ys)) (AnyRead b) (λ w xs h.
      let a = any_length xs h.1.0 in
      record { fit = h.0; few = h.1.1; there = e ∙ sym a; spelled = h.2 ∙ ap (λ c. cond c (spell_list spell xs) []) (sym a) }) g)
      (λ e. record { fit = tt; few = omega arith; there = e; spelled = refl })

  pub reads_any : ((xs : List X) → Between 1 high (length xs) → AllByRecursion Fits xs → Reads list (spell_list spell xs) xs)
      → (b : Bool) (xs : List X) → b ≡ is_any xs → length xs ≤ high → AllByRecursion Fits xs → Reads (when b [] list) (spell_any xs) xs
  reads_any f b [] e h g = reads_absent b [] list [] e refl
  reads_any f b (x ∷ xs) e h g = reads_there b [] list (spell_list spell (x ∷ xs)) (x ∷ xs) e (f (x ∷ xs) (omega arith, h) g)

abbrev AttributesRead : Bool → List ℕ → List Attribute → Type 0
AttributesRead = AnyRead attribute_list AttributeFits spell_attribute 8

abbrev spell_attributes : List Attribute → List ℕ
spell_attributes = spell_any attribute_list AttributeFits spell_attribute 8

gives_attributes : (b : Bool) → Gives (when b [] attribute_list) (AttributesRead b)
gives_attributes = gives_any attribute_list AttributeFits spell_attribute 8 gives_attribute_list

reads_attributes : (b : Bool) (xs : List Attribute) → b ≡ is_any xs → length xs ≤ 8 → AllByRecursion AttributeFits xs → Reads (when b [] attribute_list) (spell_attributes xs) xs
reads_attributes = reads_any attribute_list AttributeFits spell_attribute 8 reads_attribute_list

-- TAGS: one that no earlier element carries

abbrev New : ℕ → List Element → Type 0
New t es = (e : Element) → Memᴰ e es → e.tag ≡ Some t → ⊥

is_tag_some : (t : ℕ) (o : Option ℕ) → o ≡ Some t → is_tag t o ≡ true
is_tag_some t o e = subst (λ v. is_tag t v ≡ true) (sym e) (eq-eqb t t refl)

is_tag_other : (t : ℕ) (o : Option ℕ) → (o ≡ Some t → ⊥) → is_tag t o ≡ false
is_tag_other t None h = refl
is_tag_other t (Some u) h = ne_eqb u t (λ e. h (ap {B = Option ℕ} Some e))

carried_new : (t : ℕ) (es : List Element) → carried t (list.map tag_of es) ≡ false → New t es
carried_new t [] h e m q = Memᴰ.not-nil m
carried_new t (x ∷ es) h e m q =
    let k = or_parts (is_tag t x.tag) (carried t (list.map tag_of es)) h in
    ⊎_elim (λ s. both_ways (is_tag t x.tag) k.0 (is_tag_some t x.tag (ap (λ (y : Element). y.tag) (sym s) ∙ q))) (λ n. carried_new t es k.1 e n q) (Memᴰ.cases_cons m)

new_carried : (t : ℕ) (es : List Element) → New t es → carried t (list.map tag_of es) ≡ false
new_carried t [] h = refl
new_carried t (x ∷ es) h = or_from (is_tag t x.tag) (carried t (list.map tag_of es)) (is_tag_other t x.tag (h x (Memᴰ.head refl))) (new_carried t es (λ e m. h e (Memᴰ.tail m)))

pub record TagRead (es : List Element) (b : Bool) (w : List ℕ) (o : Option ℕ) : Type 0 where
  pub fits : WhenSome (Between 1 255) o
  pub new : WhenSome (λ t. New t es) o
  pub there : b ≡ is_there o
  pub spelled : w ≡ spell_some spell_code o

gives_tag : (es : List Element) (b : Bool) → Gives (when b None (some (new_tag (list.map tag_of es)))) (TagRead es b)
gives_tag es b =
    let tags = list.map tag_of es in
    let Read : List ℕ → ℕ → Type 0 = λ w t. ((w ≡ t ∷ []) × Between 1 255 t) × (carried t tags ≡ false) in
    gives_when (TagRead es b) b None (some (new_tag tags))
    (λ e. gives_some Read (TagRead es b) (λ w t h. record { fits = h.0.1; new = carried_new t es h.1; there = e; spelled = h.0.0 }) (new_tag tags)
    (gives_unless (λ w t. (w ≡ t ∷ []) × Between 1 255 t) (λ t. carried t tags) 15 (code 1 255) (gives_code 1 255)))
    (λ e. record { fits = tt; new = tt; there = e; spelled = refl })

reads_tag : (es : List Element) (b : Bool) (o : Option ℕ) → b ≡ is_there o → WhenSome (Between 1 255) o → WhenSome (λ t. New t es) o → Reads (when b None (some (new_tag (list.map tag_of es)))) (spell_some spell_code o) o
reads_tag es b None e h n = reads_absent b None (some (new_tag (list.map tag_of es))) None e refl
reads_tag es b (Some t) e h n =
    reads_there b None (some (new_tag (list.map tag_of es))) (t ∷ []) (Some t) e
    (reads_some (new_tag (list.map tag_of es)) (t ∷ []) t (reads_unless (λ u. carried u (list.map tag_of es)) 15 (code 1 255) (t ∷ []) t (new_carried t es n) (reads_code 1 255 t h)))

-- ELEMENTS

pub record ElementRead (es : List Element) (w : List ℕ) (e : Element) : Type 0 where
  pub fits : ElementFits e
  pub new : WhenSome (λ t. New t es) e.tag
  pub spelled : w ≡ spell_element e

module _ (m category : ℕ) (tag : Option ℕ) (attributes : List Attribute) (es : List Element) (w₁ w₂ w₃ w₄ : List ℕ) where
  element_spelled : w₁ ≡ m ∷ [] → m ≤ 3 → w₂ ≡ category ∷ [] → TagRead es (bit 0 m) w₃ tag → AttributesRead (bit 1 m) w₄ attributes
      → w₁ ++ (w₂ ++ (w₃ ++ (w₄ ++ []))) ≡ spell_element (record { category = category; tag = tag; attributes = attributes })
  element_spelled e₁ h e₂ t a =
      let rest : w₃ ++ (w₄ ++ []) ≡ spell_some spell_code tag ++ spell_attributes attributes = ap₂ (λ x y. x ++ y) t.spelled (append-nil w₄ ∙ a.spelled) in
      let map_is : m ≡ of_two (is_there tag) (is_any attributes) = sum_of_two m h ∙ ap₂ of_two t.there a.there in
      ap₂ (λ x y. x ++ y) e₁ (ap₂ (λ x y. x ++ y) e₂ rest) ∙ ap (λ n. n ∷ category ∷ (spell_some spell_code tag ++ spell_attributes attributes)) map_is

gives_element : (es : List Element) → Gives (element_fields (list.map tag_of es)) (ElementRead es)
gives_element es =
    let S = ElementRead es in
    gives_bind (λ w m. (w ≡ m ∷ []) × (m ≤ 3)) S (gives_flags 3) (λ m w₁ h₁.
    gives_bind (λ w n. (w ≡ n ∷ []) × Between 1 255 n) (λ v e. S (w₁ ++ v) e) (gives_code 1 255) (λ category w₂ h₂.
    gives_bind (TagRead es (bit 0 m)) (λ v e. S (w₁ ++ (w₂ ++ v)) e) (gives_tag es (bit 0 m)) (λ tag w₃ h₃.
    gives_bind (AttributesRead (bit 1 m)) (λ v e. S (w₁ ++ (w₂ ++ (w₃ ++ v))) e) (gives_attributes (bit 1 m)) (λ attributes w₄ h₄.
    gives_give (λ v e. S (w₁ ++ (w₂ ++ (w₃ ++ (w₄ ++ v)))) e) (record { category = category; tag = tag; attributes = attributes }) (record {
      fits = record { category = h₂.1; tag = h₃.fits; few = h₄.few; attributes = h₄.fit };
      new = h₃.new;
      spelled = element_spelled m category tag attributes es w₁ w₂ w₃ w₄ h₁.0 h₁.1 h₂.0 h₃ h₄;
    })))))

reads_element : (es : List Element) (e : Element) → ElementFits e → WhenSome (λ t. New t es) e.tag → Reads (element_fields (list.map tag_of es)) (spell_element e) e
reads_element es e f n =
    let m = of_two (is_there e.tag) (is_any e.attributes) in
    let k = two_bits (is_there e.tag) (is_any e.attributes) in
    let w₃ = spell_some spell_code e.tag in
    let w₄ = spell_attributes e.attributes in
    reads_bind _ (m ∷ []) (e.category ∷ (w₃ ++ w₄)) m (reads_flags 3 m k.small)
    (reads_bind _ (e.category ∷ []) (w₃ ++ w₄) e.category (reads_code 1 255 e.category f.category)
    (reads_bind _ w₃ w₄ e.tag (reads_tag es (bit 0 m) e.tag k.first f.tag n)
    (reads_map (λ xs. record { category = e.category; tag = e.tag; attributes = xs }) w₄ e.attributes (reads_attributes (bit 1 m) e.attributes k.second f.few f.attributes))))

-- elements that fit, no tag twice
abbrev GoodElements : List Element → Type 0
GoodElements es = AllByRecursion ElementFits es × Sorted OtherTag es

module _ {X : Type 0} (R : X → X → Type 0) where
  sorted_push : (xs : List X) (x : X) → Sorted R xs → ((y : X) → Memᴰ y xs → R y x) → Sorted R (xs ++ x ∷ [])
  sorted_push [] x s h = (λ y m. absurd (Memᴰ.not-nil m), tt)
  sorted_push (z ∷ xs) x s h = (
    λ y m. ⊎_elim (s.0 y) (λ n. subst (R z) (sym (Memᴰ.eq_of_singleton n)) (h z (Memᴰ.head refl))) (Memᴰ.append_cases xs m),
    sorted_push xs x s.1 (λ y m. h y (Memᴰ.tail m)),
  )

  sorted_at : (xs : List X) (x : X) (zs : List X) → Sorted R (xs ++ x ∷ zs) → (y : X) → Memᴰ y xs → R y x
  sorted_at [] x zs s y m = absurd (Memᴰ.not-nil m)
  sorted_at (z ∷ xs) x zs s y m = ⊎_elim
      (λ e. subst (λ v. R v x) (sym e) (s.0 x (Memᴰ.append_right xs (Memᴰ.head refl))))
      (λ n. sorted_at xs x zs s.1 y n) (Memᴰ.cases_cons m)

new_apart : (es : List Element) (o : Option ℕ) → WhenSome (λ t. New t es) o → (y : Element) → Memᴰ y es → (t : ℕ) → y.tag ≡ Some t → o ≡ Some t → ⊥
new_apart es o n y m t p q = subst (WhenSome (λ u. New u es)) q n y m p

apart_new : (es : List Element) (e : Element) → ((y : Element) → Memᴰ y es → OtherTag y e) → (o : Option ℕ) → e.tag ≡ o → WhenSome (λ t. New t es) o
apart_new es e h None q = tt
apart_new es e h (Some t) q = λ y m p. h y m t p q

gives_elements : Gives element_list (λ w es. GoodElements es × Between 1 16 (length es) × (w ≡ spell_list spell_element es))
gives_elements = gives_list one_element spell_element GoodElements
    (λ i es g. gives_weaker (ElementRead es) (λ w e. GoodElements (es ++ e ∷ []) × (w ≡ spell_element e)) (λ w e h.
    ((All-push ElementFits es e g.0 h.fits, sorted_push OtherTag es e g.1 (λ y m t p q. new_apart es e.tag h.new y m t p q)), h.spelled))
    (gives_within (ElementRead es) kind.Element i (element_fields (list.map tag_of es)) (gives_element es)))
    1 16 (tt, tt)

reads_elements : (es : List Element) → Between 1 16 (length es) → GoodElements es → Reads element_list (spell_list spell_element es) es
reads_elements es h g = reads_list one_element spell_element GoodElements
    (λ i xs e zs k. reads_within kind.Element i (element_fields (list.map tag_of xs)) (spell_element e) e
    (reads_element xs e (all_at ElementFits xs e zs k.0) (apart_new xs e (sorted_at OtherTag xs e zs k.1) e.tag refl)))
    1 16 es h g

-- REFERENCES

gives_reference : Gives reference_fields (λ w ts. ReferenceFits ts × (w ≡ spell_reference ts))
gives_reference =
    gives_weaker (λ w ts. AllByRecursion (Between 1 255) ts × Between 1 16 (length ts) × (w ≡ spell_list spell_code ts)) (λ w ts. ReferenceFits ts × (w ≡ spell_reference ts))
    (λ w ts h. (record { as_many = h.1; each = h.0 }, h.2))
    (gives_list one_tag spell_code (AllByRecursion (Between 1 255))
    (λ i ts g. gives_weaker (λ w t. (w ≡ t ∷ []) × Between 1 255 t) (λ w t. AllByRecursion (Between 1 255) (ts ++ t ∷ []) × (w ≡ spell_code t)) (λ w t h. (All-push (Between 1 255) ts t g h.1, h.0)) (gives_code 1 255))
    1 16 tt)

reads_reference : (ts : List ℕ) → ReferenceFits ts → Reads reference_fields (spell_reference ts) ts
reads_reference ts f = reads_list one_tag spell_code (AllByRecursion (Between 1 255)) (λ i us u vs k. reads_code 1 255 u (all_at (Between 1 255) us u vs k)) 1 16 ts f.as_many f.each

pub record ReferencesRead (b : Bool) (w : List ℕ) (o : Option (List (List ℕ))) : Type 0 where
  pub fit : WhenSome ReferencesFit o
  pub there : b ≡ is_there o
  pub spelled : w ≡ spell_some (spell_list spell_reference) o

gives_references : (b : Bool) → Gives (when b None (some reference_list)) (ReferencesRead b)
gives_references b =
    let Read : List ℕ → List (List ℕ) → Type 0 = λ w rs. AllByRecursion ReferenceFits rs × Between 1 16 (length rs) × (w ≡ spell_list spell_reference rs) in
    gives_when (ReferencesRead b) b None (some reference_list)
    (λ e. gives_some Read (ReferencesRead b) (λ w rs h. record { fit = record { as_many = h.1; each = h.0 }; there = e; spelled = h.2 }) reference_list
    (gives_list one_reference spell_reference (AllByRecursion ReferenceFits)
    (λ i rs g. gives_weaker (λ w ts. ReferenceFits ts × (w ≡ spell_reference ts)) (λ w ts. AllByRecursion ReferenceFits (rs ++ ts ∷ []) × (w ≡ spell_reference ts)) (λ w ts h. (All-push ReferenceFits rs ts g h.0, h.1))
    (gives_within (λ w ts. ReferenceFits ts × (w ≡ spell_reference ts)) kind.Reference i reference_fields gives_reference))
    1 16 tt))
    (λ e. record { fit = tt; there = e; spelled = refl })

reads_references : (b : Bool) (o : Option (List (List ℕ))) → b ≡ is_there o → WhenSome ReferencesFit o → Reads (when b None (some reference_list)) (spell_some (spell_list spell_reference) o) o
reads_references b None e f = reads_absent b None (some reference_list) None e refl
reads_references b (Some rs) e f =
    reads_there b None (some reference_list) (spell_list spell_reference rs) (Some rs) e
    (reads_some reference_list (spell_list spell_reference rs) rs
    (reads_list one_reference spell_reference (AllByRecursion ReferenceFits)
    (λ i xs ts zs k. reads_within kind.Reference i reference_fields (spell_reference ts) ts (reads_reference ts (all_at ReferenceFits xs ts zs k)))
    1 16 rs f.as_many f.each))

-- THE REQUEST

abbrev combining : Bool → List ℕ
combining b = cond b (spell_code 1) []

gives_combining : (b : Bool) → Gives (when b 1 (code 1 1)) (λ w n. w ≡ combining b)
gives_combining b = gives_when (λ w n. w ≡ combining b) b 1 (code 1 1)
    (λ e. gives_weaker (λ w n. (w ≡ n ∷ []) × Between 1 1 n) (λ w n. w ≡ combining b) (λ w n h.
    let one : n ≡ 1 = omega (arith, h.1) in h.0 ∙ ap (λ k. k ∷ []) one ∙ ap combining (sym e)) (gives_code 1 1))
    (λ e. ap combining (sym e))

reads_combining : (b c : Bool) → b ≡ c → Reads (when b 1 (code 1 1)) (combining c) 1
reads_combining b true e = reads_there b 1 (code 1 1) (1 ∷ []) 1 e (reads_code 1 1 1 (omega arith, omega arith))
reads_combining b false e = reads_absent b 1 (code 1 1) 1 e refl

abbrev RequestRead : List ℕ → Request → Type 0
RequestRead w q = RequestFits q × (w ≡ spell_request q)

module _ (m : ℕ) (elements : List Element) (references : Option (List (List ℕ))) (w₁ w₂ w₃ w₄ : List ℕ) where
  abbrev made_request : Request
  made_request = record { combined = bit 0 m; elements = elements; references = references }

  request_spelled : w₁ ≡ m ∷ [] → m ≤ 3 → w₂ ≡ combining (bit 0 m) → w₃ ≡ spell_list spell_element elements → ReferencesRead (bit 1 m) w₄ references
      → w₁ ++ (w₂ ++ (w₃ ++ (w₄ ++ []))) ≡ spell_request made_request
  request_spelled e₁ h e₂ e₃ r =
      let rest = spell_list spell_element elements ++ spell_some (spell_list spell_reference) references in
      let map_is : m ≡ of_two (bit 0 m) (is_there references) = sum_of_two m h ∙ ap (of_two (bit 0 m)) r.there in
      ap₂ (λ x y. x ++ y) e₁ (ap₂ (λ x y. x ++ y) e₂ (ap₂ (λ x y. x ++ y) e₃ (append-nil w₄ ∙ r.spelled))) ∙ ap (λ n. n ∷ (combining (bit 0 m) ++ rest)) map_is

gives_request : Gives request_fields RequestRead
gives_request =
    let S = RequestRead in
    gives_bind (λ w m. (w ≡ m ∷ []) × (m ≤ 3)) S (gives_flags 3) (λ m w₁ h₁.
    gives_bind (λ w n. w ≡ combining (bit 0 m)) (λ v q. S (w₁ ++ v) q) (gives_combining (bit 0 m)) (λ n w₂ h₂.
    gives_bind (λ w es. GoodElements es × Between 1 16 (length es) × (w ≡ spell_list spell_element es)) (λ v q. S (w₁ ++ (w₂ ++ v)) q) gives_elements (λ elements w₃ h₃.
    gives_bind (ReferencesRead (bit 1 m)) (λ v q. S (w₁ ++ (w₂ ++ (w₃ ++ v))) q) (gives_references (bit 1 m)) (λ references w₄ h₄.
    gives_give (λ v q. S (w₁ ++ (w₂ ++ (w₃ ++ (w₄ ++ v)))) q) (made_request m elements references w₁ w₂ w₃ w₄)
    (record { as_many = h₃.1; elements = h₃.0.0; tags = h₃.0.1; references = h₄.fit }, request_spelled m elements references w₁ w₂ w₃ w₄ h₁.0 h₁.1 h₂ h₃.2 h₄)))))

reads_request : (q : Request) → RequestFits q → Reads request_fields (spell_request q) q
reads_request q f =
    let m = of_two q.combined (is_there q.references) in
    let k = two_bits q.combined (is_there q.references) in
    let w₂ = combining q.combined in
    let w₃ = spell_list spell_element q.elements in
    let w₄ = spell_some (spell_list spell_reference) q.references in
    reads_bind _ (m ∷ []) (w₂ ++ (w₃ ++ w₄)) m (reads_flags 3 m k.small)
    (reads_bind _ w₂ (w₃ ++ w₄) 1 (reads_combining (bit 0 m) q.combined k.first)
    (reads_bind _ w₃ w₄ q.elements (reads_elements q.elements f.as_many (f.elements, f.tags))
    (subst (λ w. Reads (when (bit 1 m) None (some reference_list) >>= λ references. give (record { combined = bit 0 m; elements = q.elements; references = references })) w q) (append-nil w₄)
    (reads_bind _ w₄ [] q.references (reads_references (bit 1 m) q.references k.second f.references)
    (reads_give (record { combined = bit 0 m; elements = q.elements; references = q.references }) q
    (ap (λ (b : Bool). record { combined = b; elements = q.elements; references = q.references }) k.first))))))

-- THE WHOLE FILE

pub accepted_exactly : AcceptedExactly
accepted_exactly bytes q = (accepted RequestRead request_fields gives_request bytes q, λ h. ap read_request h.1 ∙ back request_fields (spell_request q) q (reads_request q h.0))
