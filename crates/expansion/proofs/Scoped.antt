-- What a resource element asks for, by the attributes of two ids. Assumes nothing.
use Rattle.std.proofs.Common.{◌≡◌, ℕ, zero, suc, Bool, true, false, cond, ◌&&◌, eqb, List, [], ◌∷◌, sym, refl, ap, ◌∙◌, ap₂}
use Rattle.std.specs.Str.{bytes_eq}
use Rattle.model.specs.Content as content
use Rattle.model.specs.Lists.{keep}
use Rattle.model.specs.Rows.{with_id, scope, scope_by_attributes, asked}
use Rattle.model.specs.Tree.{Tree, Extent}
use Rattle.model.specs.Values.{same}
use Rattle.request.specs.declared.content.Attribute.{Attribute}
use Rattle.request.specs.Held.{attribute_of, attributes_of_held}
use Rattle.request.specs.Place.{attributes_of}
use Rattle.single.specs.Numbers.{numbered}
use Rattle.single.specs.declared.only.Only.{Only}
use Rattle.single.specs.declared.only.Only.TheVariants.{Missing, Several}
use Rattle.single.specs.Only.{and_these}
use Rattle.expansion.specs.Asked.{with_code, asked_only, scope_only}

-- THE SAME BYTES

pub bytes_same : (xs ys : List ℕ) → bytes_eq xs ys ≡ same xs ys
bytes_same [] [] = refl
bytes_same [] (y ∷ ys) = refl
bytes_same (x ∷ xs) [] = refl
bytes_same (x ∷ xs) (y ∷ ys) = ap (λ b. eqb x y && b) (bytes_same xs ys)

-- IN THE WORDS OF THE SPECIFICATION

module _ (tree : Tree) (bytes : List ℕ) where
  several : (xs : List Attribute) → and_these Several xs ≡ Several
  several [] = refl
  several (x ∷ xs) = several xs

  kept : (id : ℕ) (xs : List Attribute) → with_id id (attributes_of_held bytes xs) ≡ attributes_of_held bytes (keep (with_code id) xs)
  kept id [] = refl
  kept id (x ∷ xs) = step (eqb x.id id) (kept id xs)
    where
      step : (b : Bool) → with_id id (attributes_of_held bytes xs) ≡ attributes_of_held bytes (keep (with_code id) xs)
          → cond b (attribute_of bytes x ∷ with_id id (attributes_of_held bytes xs)) (with_id id (attributes_of_held bytes xs)) ≡ attributes_of_held bytes (cond b (x ∷ keep (with_code id) xs) (keep (with_code id) xs))
      step true e = ap {B = List content.Attribute} (λ l. attribute_of bytes x ∷ l) e
      step false e = e

  asked_is : (x : Extent) (ids : List Attribute) → asked tree x (attributes_of_held bytes ids) ≡ asked_only tree bytes x (and_these Missing ids)
  asked_is x [] = refl
  asked_is x (a ∷ []) = refl
  asked_is x (a ∷ b ∷ more) = ap (asked_only tree bytes x) (sym (several more))

  scope_is : (ids scopes : List Attribute) → scope_by_attributes tree (attributes_of_held bytes ids) (attributes_of_held bytes scopes) ≡ scope_only tree bytes (and_these Missing ids) (and_these Missing scopes)
  scope_is ids [] = refl
  scope_is ids (s ∷ []) = rw (asked_is, asked_is)
  scope_is ids (s ∷ t ∷ more) = ap (scope_only tree bytes (and_these Missing ids)) (sym (several more))

attributes_are : (n : ℕ) (es : List content.Element) → attributes_of n es ≡ (numbered es n).attributes
attributes_are n [] = refl
attributes_are zero (e ∷ es) = refl
attributes_are (suc n) (e ∷ es) = attributes_are n es

pub scope_shown : (tree : Tree) (bytes : List ℕ) (n : ℕ) (es : List content.Element) (xs : List Attribute) (ids scopes : Only Attribute) → attributes_of_held bytes xs ≡ attributes_of n es
    → ids ≡ and_these Missing (keep (with_code 1) xs) → scopes ≡ and_these Missing (keep (with_code 2) xs) → scope_only tree bytes ids scopes ≡ scope tree (numbered es n)
scope_shown tree bytes n es xs ids scopes e p q =
    ap₂ (scope_only tree bytes) p q
    ∙ sym (scope_is tree bytes (keep (with_code 1) xs) (keep (with_code 2) xs))
    ∙ ap₂ (scope_by_attributes tree) (sym (kept tree bytes 1 xs)) (sym (kept tree bytes 2 xs))
    ∙ ap (λ l. scope_by_attributes tree (with_id 1 l) (with_id 2 l)) (e ∙ attributes_are n es)
