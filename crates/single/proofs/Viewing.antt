-- The elements of a single request, by their numbers. Assumes nothing.
use Rattle.std.proofs.Common.{◌≡◌, ℕ, zero, suc, ◌<◌, Bool, List, [], ◌∷◌, map, length, get_or, Some, None, Option, sym, refl, ap, ◌∙◌, arith}
use Rattle.std.specs.Option.{option_map}
use Rattle.std.proofs.lemmas.List.{length-map, get_or-map, length-take-le}
use Rattle.model.specs.Content as content
use Rattle.model.specs.Lists.{nth}
use Rattle.request.specs.declared.content.Attribute.{Attribute}
use Rattle.request.specs.declared.content.Element.{Element}
use Rattle.request.specs.declared.request.Request.{Request}
use Rattle.request.specs.Held.{attributes_of_held, element_of_held}
use Rattle.request.specs.Place.{content_of, elements_shown, attributes_of}
use Rattle.single.specs.declared.seen.Seen.{Seen}
use Rattle.single.specs.declared.single.SingleRequest.{SingleRequest}
use Rattle.single.specs.Numbers.{blank, numbered}
use Rattle.single.specs.Shown.{shown}
use Rattle.single.specs.Single.{name_of, put, numbers_of, chosen_of, content as content_of_view, bytes_of, category_of, category_at, attributes_in, attributes_at, seen_in, is_resource_category}
use Rattle.single.proofs.Places.{nth_map}
use Rattle.single.proofs.Numbers.{named_in}
use Rattle.single.proofs.Showing.{category_kept, element_view}

pub attributes_numbered : (es : List content.Element) (k : ℕ) → attributes_of k es ≡ (numbered es k).attributes
attributes_numbered [] k = refl
attributes_numbered (e ∷ es) zero = refl
attributes_numbered (e ∷ es) (suc k) = attributes_numbered es k

pub held_length : (p : Request) (held : List Element) → elements_shown p held ≡ (content_of p).elements → length held ≡ length (content_of p).elements
held_length p held is = sym (length-map held (element_of_held p.bytes.now p.index.attributes.items)) ∙ ap length is

categories_kept : (n : Option (List ℕ)) (o : Option content.Element) → option_map category_of (option_map (put n) o) ≡ option_map category_of o
categories_kept n None = refl
categories_kept n (Some e) = ap Some (category_kept n e)

module _ (s : SingleRequest) where
  abbrev all_elements : List content.Element
  all_elements = (content_of s.request.now).elements

  abbrev elements_named : Option ℕ → Option content.Element
  elements_named o = option_map (numbered all_elements) o

  pub content_length : length (content_of_view s) ≡ s.count
  content_length = length-map (chosen_of s) (put (name_of s)) ∙ length-map (numbers_of s) (numbered all_elements) ∙ length-take-le s.count s.chosen s.few

  module _ (i : ℕ) where
    put_at : nth (content_of_view s) i ≡ option_map (put (name_of s)) (nth (chosen_of s) i)
    put_at = nth_map (put (name_of s)) (chosen_of s) i

    chosen_at : nth (chosen_of s) i ≡ elements_named (nth (numbers_of s) i)
    chosen_at = nth_map (numbered all_elements) (numbers_of s) i

    pub category_from : (o : Option ℕ) → o ≡ nth (numbers_of s) i → option_map category_of (elements_named o) ≡ category_at (content_of_view s) i
    category_from o at =
        ap (λ n. option_map category_of (elements_named n)) at
        ∙ sym (ap (option_map category_of) (put_at ∙ ap (option_map (put (name_of s))) chosen_at) ∙ categories_kept (name_of s) (elements_named (nth (numbers_of s) i)))

    pub attributes_from : (o : Option ℕ) → o ≡ nth (numbers_of s) i → attributes_in (elements_named o) ≡ attributes_at (chosen_of s) i
    attributes_from o at = ap (λ n. attributes_in (elements_named n)) at ∙ sym (ap attributes_in chosen_at)

    -- `held` is what the request shows of its elements
    module _ (held : List Element) (is : elements_shown s.request.now held ≡ all_elements) (n : ℕ) (at : Some n ≡ nth (numbers_of s) i) where
      pub held_in : n < length held
      held_in = let l = held_length s.request.now held is in let h = named_in all_elements (numbers_of s) i n s.numbers at in omega arith

      pub category_read : (d : Element) → Some (get_or held n d).category ≡ category_at (content_of_view s) i
      category_read d =
          ap (λ (x : content.Element). Some x.category)
          (sym (get_or-map (element_of_held s.request.now.bytes.now s.request.now.index.attributes.items) held n d blank held_in) ∙ ap (λ l. get_or l n blank) is)
          ∙ category_from (Some n) at

    -- `own` is what the request shows of the element's attributes
    module _ (own : List Attribute) (is : attributes_of_held (bytes_of s) own ≡ attributes_at (chosen_of s) i) (b : Bool) (b_is : b ≡ is_resource_category (name_of s) (category_at (content_of_view s) i)) where
      view : map (seen_in s) (shown b own) ≡ attributes_at (content_of_view s) i
      view =
          ap (λ t. map (seen_in s) (shown t own)) (b_is ∙ ap (λ o. is_resource_category (name_of s) (option_map category_of o)) put_at)
          ∙ element_view (name_of s) (bytes_of s) (nth (chosen_of s) i) own is
          ∙ sym (ap attributes_in put_at)

      pub view_count : (n : ℕ) → n ≡ length (shown b own) → n ≡ length (attributes_at (content_of_view s) i)
      view_count n e = e ∙ sym (length-map (shown b own) (seen_in s)) ∙ ap length view

      pub view_nth : (j : ℕ) (o : Option Seen) → o ≡ nth (shown b own) j → option_map (seen_in s) o ≡ nth (attributes_at (content_of_view s) i) j
      view_nth j o e = ap (option_map (seen_in s)) e ∙ sym (nth_map (seen_in s) (shown b own) j) ∙ ap (λ l. nth l j) view
