-- How values are found attribute by attribute. Assumes nothing.
use Rattle.std.proofs.Common.{◌≡◌, ℕ, ◌+◌, eqb, List, [], ◌∷◌, ◌++◌, map, drop, Some, sym, refl, ap, ◌∙◌}
use Rattle.std.specs.Option.{option_map}
use Rattle.std.proofs.lemmas.Bool.{cond-true, cond-false, eq-eqb, ne_eqb}
use Rattle.model.specs.Content.{Attribute}
use Rattle.model.specs.Lists.{keep, nth}
use Rattle.model.specs.PointFiles.{value_of}
use Rattle.single.specs.Only.{one_more}
use Rattle.single.specs.declared.seen.Seen.{Seen}
use Rattle.single.specs.declared.single.SingleRequest.{SingleRequest}
use Rattle.single.specs.Single.{content, attributes_at, seen_in}
use Rattle.single.proofs.Categories.{attribute_turn}
use Rattle.single.specs.declared.only.Only.{Only}
use Rattle.single.specs.declared.only.Only.TheVariants.{Missing, One, Several}
use Rattle.grants.specs.Found.{Given, missing, one, repeated, given, found_in}

-- VALUES

-- what was found, and these values left
abbrev pub gather : Given → List (List ℕ) → Given
gather missing xs = given xs
gather (one v) [] = one v
gather (one v) (x ∷ xs) = repeated
gather repeated xs = repeated

-- one more found is one less left
gather_more : (s : SingleRequest) (f : Only Seen) (a : Seen) (xs : List (List ℕ)) → gather (found_in s (one_more f a)) xs ≡ gather (found_in s f) ((seen_in s a).value ∷ xs)
gather_more s Missing a [] = refl
gather_more s Missing a (x ∷ xs) = refl
gather_more s (One b) a xs = refl
gather_more s Several a xs = refl

abbrev pub values_left : ℕ → List Attribute → List (List ℕ)
values_left id xs = map value_of (keep (λ a. eqb a.id id) xs)

module _ (s : SingleRequest) (id i j : ℕ) (a : Seen) (rest : List Attribute) (at : option_map (seen_in s) (Some a) ≡ nth (attributes_at (content s) i) j) (f : Only Seen) (t : Given)
    (inv : gather (found_in s f) (values_left id (drop j (attributes_at (content s) i) ++ rest)) ≡ t) where
  abbrev left : List Attribute
  left = drop (j + 1) (attributes_at (content s) i) ++ rest

  abbrev here : Attribute
  here = seen_in s a

  turn : gather (found_in s f) (values_left id (here ∷ left)) ≡ t
  turn = sym (ap (λ l. gather (found_in s f) (values_left id l)) (attribute_turn s i j a rest at)) ∙ inv

  pub find_skip : (a.id ≡ id → ⊥) → gather (found_in s f) (values_left id left) ≡ t
  find_skip ne = sym (ap (λ l. gather (found_in s f) (map value_of l)) (cond-false _ _ _ (ne_eqb _ _ ne))) ∙ turn

  pub find_taken : a.id ≡ id → gather (found_in s (one_more f a)) (values_left id left) ≡ t
  find_taken e =
      gather_more s f a (values_left id left)
      ∙ sym (ap (λ l. gather (found_in s f) (map value_of l)) (cond-true _ _ _ (eq-eqb _ _ e)))
      ∙ turn

  -- the second one ends the search
  pub find_again : (g : Only Seen) → g ≡ one_more f a → g ≡ Several → a.id ≡ id → found_in s g ≡ t
  find_again g e several i = ap (found_in s) several ∙ ap (λ h. gather (found_in s h) (values_left id left)) (sym several ∙ e) ∙ find_taken i
