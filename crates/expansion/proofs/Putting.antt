-- Single requests of chosen elements. Assumes nothing.
use Rattle.std.proofs.Common.{◌≡◌, ℕ, zero, suc, ◌<◌, ◌≤◌, ltb, List, [], ◌∷◌, map, length, get_or, Some, None, Option, Bor, sym, refl, ap, ◌∙◌, arith}
use Rattle.std.specs.Option.{option_map, unwrap_or}
use Rattle.std.proofs.lemmas.List.{get_or_past}
use Rattle.std.proofs.lemmas.Bool.{cond-true, cond-false, lt-ltb, le-ltb}
use Rattle.model.specs.Content.{Element}
use Rattle.model.specs.Lists.{nth}
use Rattle.model.specs.Rows.{Listed, bare, for_node, put_bare, put_named, single_request}
use Rattle.model.specs.Tree.{Tree, count}
use Rattle.single.specs.Numbers.{past, numbered, picked, all_at}
use Rattle.single.proofs.Numbers.{all_there}
use Rattle.expansion.specs.Listed.{listed_of}
use Rattle.expansion.specs.Put.{element_of, at_node}

elements_are : (es : List Element) (ks : List ℕ) → picked es ks ≡ map element_of (listed_of es ks)
elements_are es [] = refl
elements_are es (k ∷ ks) = ap {B = List Element} (λ l. numbered es k ∷ l) (elements_are es ks)

bare_are : (ls : List Listed) → map bare (map element_of ls) ≡ map put_bare ls
bare_are [] = refl
bare_are (l ∷ ls) = ap {B = List Element} (λ m. put_bare l ∷ m) (bare_are ls)

named_are : (t : List ℕ) (ls : List Listed) → map (for_node t) (map element_of ls) ≡ map (put_named t) ls
named_are t [] = refl
named_are t (l ∷ ls) = ap {B = List Element} (λ m. put_named t l ∷ m) (named_are t ls)

module _ (es : List Element) (ks : List ℕ) (h : past ks ≤ length es) where
  pub put_elements : all_at es ks ≡ Some (map element_of (listed_of es ks))
  put_elements = all_there es ks h ∙ ap Some (elements_are es ks)

  pub put_content : option_map (map bare) (all_at es ks) ≡ Some (map put_bare (listed_of es ks))
  put_content = ap (option_map (map bare)) put_elements ∙ ap Some (bare_are (listed_of es ks))

nth_some : (names : List (List ℕ)) (n : ℕ) (t : List ℕ) → Some t ≡ nth names n → (n < length names) × (get_or names n [] ≡ t)
nth_some [] n t e = let z : ◌≡◌ {A = ℕ} 0 1 = cc in absurd (omega arith)
nth_some (x ∷ names) zero t e = (omega arith, cc)
nth_some (x ∷ names) (suc n) t e = let r = nth_some names n t e in (omega (arith, r.0), r.1)

nth_none : (names : List (List ℕ)) (n : ℕ) → None ≡ nth names n → length names ≤ n
nth_none [] n e = omega arith
nth_none (x ∷ names) zero e = let z : ◌≡◌ {A = ℕ} 0 1 = cc in absurd (omega arith)
nth_none (x ∷ names) (suc n) e = let r = nth_none names n e in omega arith

module _ (tree : Tree) (n : ℕ) (ls : List Listed) where
  pub node_there : (t : List ℕ) (es content : List Element) → Some t ≡ nth tree.names n → es ≡ map element_of ls → content ≡ map (for_node t) es → Some content ≡ at_node tree n ls
  node_there t es content e p q =
      let r = nth_some tree.names n t e in
      ap Some (q ∙ ap (map (for_node t)) p ∙ named_are t ls ∙ ap (λ u. map (put_named u) ls) (sym r.1))
      ∙ sym (cond-true (ltb n (count tree)) (Some (single_request tree (Some n) ls)) None (lt-ltb _ _ r.0))

  pub node_past : None ≡ nth tree.names n → None ≡ at_node tree n ls
  node_past e = sym (cond-false (ltb n (count tree)) (Some (single_request tree (Some n) ls)) None (le-ltb _ _ (nth_none tree.names n e)))

-- past the last node the name is empty
pub name_or_empty : (names : List (List ℕ)) (n : ℕ) (o : Option (Bor (List ℕ))) (b : Bor (List ℕ)) → b.now ≡ [] → option_map (λ t. t.now) o ≡ nth names n → get_or names n [] ≡ (unwrap_or o b).now
name_or_empty names n (Some t) b e h = (nth_some names n t.now h).1
name_or_empty names n None b e h = get_or_past names n [] (nth_none names n h) ∙ sym e

pub put_node : (tree : Tree) (n : ℕ) (ls : List Listed) (t : List ℕ) (es content : List Element) → get_or tree.names n [] ≡ t
    → es ≡ map element_of ls → content ≡ map (for_node t) es → content ≡ single_request tree (Some n) ls
put_node tree n ls t es content e p q =
    q ∙ ap (map (for_node t)) p ∙ named_are t ls ∙ ap (λ u. map (put_named u) ls) (sym e)
