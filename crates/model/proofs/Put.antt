-- The single request, as the relations Bare and AtNode say. Assumes nothing.
use Rattle.std.proofs.Common.{◌≡◌, ℕ, Bool, true, false, cond, not, eqb, List, [], ◌∷◌, map, refl, ap₂, arith}
use Rattle.std.proofs.lemmas.Bool.{eqb-true, eqb-false, eq-eqb, ne_eqb}
use Rattle.model.specs.Content.{Attribute, Element}
use Rattle.model.specs.Lists.{keep}
use Rattle.model.specs.Rows.{bare, with_value, named, not_scope, resource_named, for_node}
use Rattle.model.specs.Meaning.{Bare, Renamed, ForNode, AtNode}

pub bare_of : (e : Element) → Bare e (bare e)
bare_of e = record { category = refl; tag = refl; attributes = refl }

pub bare_is : (e b : Element) → Bare e b → b ≡ bare e
bare_is e b h = λ i. record { category = h.category i; tag = h.tag i; attributes = h.attributes i }

renamed_is : (t : List ℕ) (a b : Attribute) → Renamed t a b → b ≡ with_value t a
renamed_is t a b h = λ i. record { included = h.included i; id = h.id i; type = h.type i; issuer = h.issuer i; value = h.value i }

-- attributes as they are put for a node of that name
abbrev put : List ℕ → List Attribute → List Attribute
put t xs = map (named t) (keep not_scope xs)

put_of : (t : List ℕ) (xs : List Attribute) → ForNode t xs (put t xs)
put_of t [] = ForNode.nothing
put_of t (a ∷ xs) = first (eqb a.id 2) refl (put_of t xs)
  where
    second : (c : Bool) → eqb a.id 1 ≡ c → (a.id ≡ 2 → ⊥) → ForNode t xs (put t xs) → ForNode t (a ∷ xs) (cond c (with_value t a) a ∷ put t xs)
    second true e n r = ForNode.id_renamed (eqb-true a.id 1 e) (record { included = refl; id = refl; type = refl; issuer = refl; value = refl }) r
    second false e n r = ForNode.stays (eqb-false a.id 1 e) n r

    first : (b : Bool) → eqb a.id 2 ≡ b → ForNode t xs (put t xs)
        → ForNode t (a ∷ xs) (map (named t) (cond (not b) (a ∷ keep not_scope xs) (keep not_scope xs)))
    first true e r = ForNode.scope_goes (eqb-true a.id 2 e) r
    first false e r = second (eqb a.id 1) refl (eqb-false a.id 2 e) r

put_is : (t : List ℕ) {xs ys : List Attribute} → ForNode t xs ys → ys ≡ put t xs
put_is t ForNode.nothing = refl
put_is t (ForNode.scope_goes {a} e r) = rw (eq-eqb a.id 2 e) (put_is t r)
put_is t (ForNode.id_renamed {a} {b} e h r) =
    rw (ne_eqb a.id 2 (omega arith), eq-eqb a.id 1 e)
    (ap₂ (λ (x : Attribute) (y : List Attribute). x ∷ y) (renamed_is t a b h) (put_is t r))
put_is t (ForNode.stays {a} m n r) =
    rw (ne_eqb a.id 2 n, ne_eqb a.id 1 m) (ap₂ (λ (x : Attribute) (y : List Attribute). x ∷ y) refl (put_is t r))

-- for a node, the resource is put with its name and the others as they stand
pub at_node_of : (t : List ℕ) (e : Element) → AtNode t e (for_node t e)
at_node_of t e = step (eqb e.category 1) refl
  where
    step : (b : Bool) → eqb e.category 1 ≡ b → AtNode t e (cond b (resource_named t e) (bare e))
    step true q = AtNode.resource (eqb-true e.category 1 q) refl refl (put_of t e.attributes)
    step false q = AtNode.elsewhere (eqb-false e.category 1 q) (bare_of e)

pub at_node_is : (t : List ℕ) (e b : Element) → AtNode t e b → b ≡ for_node t e
at_node_is t e b (AtNode.resource q c n h) = rw (eq-eqb e.category 1 q) (λ i. record { category = c i; tag = n i; attributes = put_is t h i })
at_node_is t e b (AtNode.elsewhere q h) = rw (ne_eqb e.category 1 q) (bare_is e b h)
