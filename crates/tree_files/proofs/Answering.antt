-- What a kept tree answers. Assumes nothing.
use Rattle.std.proofs.Common.{◌≡◌, ℕ, zero, suc, ◌<◌, ◌≤◌, Bool, true, false, cond, eqb, List, [], ◌∷◌, length, get_or, Some, None, vec_items, Option, sym, refl, ap, ◌∙◌, subst}
use Rattle.std.specs.Borrow.{Bor}
use Rattle.std.specs.Bool.{then_some}
use Rattle.std.specs.Option.{MatchOption, IsSomeAnd, option_map, unwrap_or}
use Rattle.std.specs.List.{HoldsAt}
use Rattle.std.proofs.lemmas.Bool.{eqb-true, eqb-false}
use Rattle.std.specs.List.Sorted.{IsPartitionPoint}
use Rattle.model.specs.Lists.{nth}
use Rattle.model.specs.TreeFiles.{has_link}
use Rattle.tree.specs.Questions.{least_child}
use Rattle.tree.proofs.Firsts.{Least, least_first}
use Rattle.tree_files.specs.Links.{LinkAscending, link_less}
use Rattle.tree_files.specs.declared.kept.Kept.{Kept}
use Rattle.tree_files.specs.Kept.{tree_of}
use Rattle.tree_files.specs.Limited.{kept_limits}
use Rattle.tree_files.proofs.Links.{least_next, least_other, least_past}
use Rattle.model.specs.Tree.{count}

pub text_at : (texts : List (List ℕ)) (n : ℕ) (o : Option (Bor (List ℕ))) (d : Bor (List ℕ)) → option_map (λ x. x.now) o ≡ nth texts n → d.now ≡ [] → (unwrap_or o d).now ≡ get_or texts n []
text_at [] n None d e f = f
text_at [] n (Some x) d e f = cc
text_at (t ∷ ts) zero None d e f = cc
text_at (t ∷ ts) zero (Some x) d e f = cc
text_at (t ∷ ts) (suc n) o d e f = text_at ts n o d e f

by_test : (b : Bool) (x : Bor (ℕ × ℕ)) (r : Option ℕ) (Q : Bor (ℕ × ℕ) → ℕ → Type 0)
    → MatchOption (then_some b x) (r ≡ None) (λ x. IsSomeAnd r (Q x)) → ((x : Bor (ℕ × ℕ)) (n : ℕ) → Q x n → n ≡ x.now.1) → r ≡ cond b (Some x.now.1) None
by_test true x None Q m q = absurd m
by_test true x (Some n) Q m q = ap Some (q x n m)
by_test false x r Q m q = m

-- what the link at a place gives, where it leads from the node
pub link_gives : (node : ℕ) (o f : Option (Bor (ℕ × ℕ))) (r : Option ℕ) (P : Bor (ℕ × ℕ) → Bool → Type 0) (Q : Bor (ℕ × ℕ) → ℕ → Type 0)
    → MatchOption o (f ≡ None) (λ x. (b : Bool) × P x b × (f ≡ then_some b x)) → ((x : Bor (ℕ × ℕ)) (b : Bool) → P x b → b ≡ eqb x.now.0 node)
    → MatchOption f (r ≡ None) (λ x. IsSomeAnd r (Q x)) → ((x : Bor (ℕ × ℕ)) (n : ℕ) → Q x n → n ≡ x.now.1)
    → MatchOption o (r ≡ None) (λ x. r ≡ cond (eqb x.now.0 node) (Some x.now.1) None)
link_gives node None f r P Q h p m q = subst (λ o. MatchOption o (r ≡ None) (λ x. IsSomeAnd r (Q x))) h m
link_gives node (Some x) f r P Q h p m q =
    let b = h.0 in
    let is : f ≡ then_some b x = h.2 in
    subst (λ t. r ≡ cond t (Some x.now.1) None) (p x b h.1) (by_test b x r Q (subst (λ o. MatchOption o (r ≡ None) (λ x. IsSomeAnd r (Q x))) is m) q)

pub least_answer : (k : Kept) (node from : ℕ) (r : Option ℕ) (links : List (ℕ × ℕ)) → links ≡ vec_items k.tables.links → Least (has_link links node) from r → r ≡ least_child (tree_of k) node from
least_answer k node from r links e l =
    least_first (has_link (vec_items k.tables.links) node) from (count (tree_of k)) r
    (λ c t. ((kept_limits k).between_nodes node c t).1) (subst (λ ls. Least (has_link ls node) from r) e l)

-- as `child` finds it
pub least_found : (k : Kept) (node from : ℕ) (links : List (ℕ × ℕ)) → links ≡ vec_items k.tables.links → LinkAscending links → (i : ℕ)
    → IsPartitionPoint (λ y. link_less y (node, from) ≡ true) (λ y. link_less y (node, from) ≡ false) links i → (o : Option (Bor (ℕ × ℕ))) (r : Option ℕ)
    → MatchOption o (length links ≤ i) (λ x. (i < length links) × HoldsAt (λ y. x.now ≡ y) links i)
    → MatchOption o (r ≡ None) (λ x. r ≡ cond (eqb x.now.0 node) (Some x.now.1) None) → r ≡ least_child (tree_of k) node from
least_found k node from links is up i p None r z g = least_answer k node from r links is (subst (Least (has_link links node) from) (sym g) (least_past links up node from i p z))
least_found k node from links is up i p (Some x) r z g = least_answer k node from r links is (subst (Least (has_link links node) from) (sym g) (go (eqb x.now.0 node) refl))
  where
    here : x.now ≡ get_or links i (0, 0)
    here = z.1 (0, 0)

    go : (b : Bool) → eqb x.now.0 node ≡ b → Least (has_link links node) from (cond b (Some x.now.1) None)
    go true e = subst (λ l. Least (has_link links node) from (Some l.1)) (sym here) (least_next links up node from i p z.0 (ap (λ l. l.0) (sym here) ∙ eqb-true x.now.0 node e))
    go false e = least_other links up node from i p z.0 (λ q. eqb-false x.now.0 node e (ap (λ l. l.0) here ∙ q))
