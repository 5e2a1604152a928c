-- The attributes of a category, element by element. Assumes nothing.
use Rattle.std.proofs.Common.{◌≡◌, ℕ, ◌+◌, ◌<◌, true, false, eqb, List, ◌∷◌, ◌++◌, length, get_or, drop, Some, sym, ap, ◌∙◌}
use Rattle.std.specs.Option.{option_map}
use Rattle.std.proofs.lemmas.List.{at_drop_more}
use Rattle.std.proofs.lemmas.Bool.{cond-true, cond-false}
use Rattle.model.specs.Content.{Attribute, Element}
use Rattle.model.specs.Lists.{nth}
use Rattle.model.specs.PointFiles.{in_category}
use Rattle.single.specs.declared.seen.Seen.{Seen}
use Rattle.single.specs.declared.single.SingleRequest.{SingleRequest}
use Rattle.single.specs.Numbers.{blank}
use Rattle.single.specs.Single.{content, category_of, attributes_in, attributes_at, seen_in, is_code, has_category_at}
use Rattle.single.proofs.Places.{nth_get_d, drop_nth}

module _ (es : List Element) (k i : ℕ) (h : i < length es) where
  category_is : has_category_at es i k ≡ eqb (get_or es i blank).category k
  category_is = ap (λ o. is_code k (option_map category_of o)) (nth_get_d es i blank h)

  pub category_passed : has_category_at es i k ≡ false → in_category k (drop i es) ≡ in_category k (drop (i + 1) es)
  category_passed e = at_drop_more (in_category k) es i blank h ∙ cond-false _ _ _ (sym category_is ∙ e)

  pub category_entered : has_category_at es i k ≡ true → in_category k (drop i es) ≡ attributes_at es i ++ in_category k (drop (i + 1) es)
  category_entered e =
      at_drop_more (in_category k) es i blank h
      ∙ cond-true _ _ _ (sym category_is ∙ e)
      ∙ ap (λ l. l ++ in_category k (drop (i + 1) es)) (sym (ap attributes_in (nth_get_d es i blank h)))

-- the next attribute of the i-th element
pub attribute_turn : (s : SingleRequest) (i j : ℕ) (a : Seen) (rest : List Attribute) → option_map (seen_in s) (Some a) ≡ nth (attributes_at (content s) i) j
    → drop j (attributes_at (content s) i) ++ rest ≡ seen_in s a ∷ (drop (j + 1) (attributes_at (content s) i) ++ rest)
attribute_turn s i j a rest at = ap (λ l. l ++ rest) (drop_nth (attributes_at (content s) i) j (seen_in s a) at)
