-- What a single request shows of an element is what it holds of it. Assumes nothing.
use Rattle.std.proofs.Common.{◌≡◌, ℕ, Bool, true, false, cond, not, eqb, List, [], ◌∷◌, map, Some, None, Option, sym, refl, ap, ◌∙◌}
use Rattle.std.specs.List.{filter}
use Rattle.std.specs.Option.{option_map}
use Rattle.std.proofs.lemmas.Bool.{cond-true, cond-false, cond_both, eqb-true}
use Rattle.model.specs.Content as content
use Rattle.model.specs.Lists.{keep}
use Rattle.model.specs.Rows.{named, not_scope, for_node}
use Rattle.request.specs.declared.content.Attribute.{Attribute}
use Rattle.request.specs.Held.{attribute_of, attributes_of_held}
use Rattle.single.specs.Shown.{seen_at, hidden, shown, attribute_seen}
use Rattle.single.specs.Single.{put, name_or_none, category_of, attributes_in, is_resource_category}

pub category_kept : (o : Option (List ℕ)) (e : content.Element) → (put o e).category ≡ e.category
category_kept None e = refl
category_kept (Some t) e = cond_both {A = content.Element} (eqb e.category 1) _ _ (λ x. x.category ≡ e.category) (λ w. sym (eqb-true _ _ w)) (λ w. refl)

module _ (bs t : List ℕ) where
  shown_plain : (xs : List Attribute) → map (attribute_seen bs t) (shown false xs) ≡ attributes_of_held bs xs
  shown_plain [] = refl
  shown_plain (a ∷ more) = ap (λ l. attribute_of bs a ∷ l) (shown_plain more)

  renamed : (a : Attribute) (r : Bool) → eqb a.id 1 ≡ r → attribute_seen bs t (seen_at true a) ≡ named t (attribute_of bs a)
  renamed a true e = rw e refl
  renamed a false e = rw e refl

  node_step : (a : Attribute) (b : Bool) (xs : List Attribute) (ys : List content.Attribute) → map (attribute_seen bs t) (map (seen_at true) xs) ≡ map (named t) ys
      → map (attribute_seen bs t) (map (seen_at true) (cond (not b) (a ∷ xs) xs)) ≡ map (named t) (cond (not b) (attribute_of bs a ∷ ys) ys)
  node_step a true xs ys ih = ih
  node_step a false xs ys ih = λ j. renamed a (eqb a.id 1) refl j ∷ ih j

  shown_node : (xs : List Attribute) → map (attribute_seen bs t) (shown true xs) ≡ map (named t) (keep not_scope (attributes_of_held bs xs))
  shown_node [] = refl
  shown_node (a ∷ more) = node_step a (eqb a.id 2) (filter (λ x. not (hidden true x)) more) (keep not_scope (attributes_of_held bs more)) (shown_node more)

  shown_either : (b : Bool) (e : content.Element) (xs : List Attribute) → attributes_of_held bs xs ≡ e.attributes → eqb e.category 1 ≡ b
      → map (attribute_seen bs t) (shown b xs) ≡ (for_node t e).attributes
  shown_either true e xs is at = shown_node xs ∙ ap (λ l. map (named t) (keep not_scope l)) is ∙ sym (ap (λ (x : content.Element). x.attributes) (cond-true _ _ _ at))
  shown_either false e xs is at = shown_plain xs ∙ is ∙ sym (ap (λ (x : content.Element). x.attributes) (cond-false _ _ _ at))

node_view : (o : Option (List ℕ)) (bs : List ℕ) (e : content.Element) (xs : List Attribute) → attributes_of_held bs xs ≡ e.attributes
    → map (attribute_seen bs (name_or_none o)) (shown (is_resource_category o (Some e.category)) xs) ≡ (put o e).attributes
node_view None bs e xs is = shown_plain bs [] xs ∙ is
node_view (Some t) bs e xs is = shown_either bs t (eqb e.category 1) e xs is refl

pub element_view : (o : Option (List ℕ)) (bs : List ℕ) (e : Option content.Element) (xs : List Attribute) → attributes_of_held bs xs ≡ attributes_in e
    → map (attribute_seen bs (name_or_none o)) (shown (is_resource_category o (option_map category_of (option_map (put o) e))) xs) ≡ attributes_in (option_map (put o) e)
element_view o bs None [] is = refl
element_view o bs None (x ∷ xs) is = cc
element_view o bs (Some e) xs is =
    ap (λ c. map (attribute_seen bs (name_or_none o)) (shown (is_resource_category o (Some c)) xs)) (category_kept o e) ∙ node_view o bs e xs is
