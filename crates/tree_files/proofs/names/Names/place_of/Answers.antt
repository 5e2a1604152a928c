use Rattle.std.proofs.Common.{ℕ, [], length, get_or, vec_items, Ordering, subst, rules}
use Rattle.std.proofs.lemmas.Fn.{always_returns_same}
use Rattle.std.specs.List.Sorted.{IsBinarySearchResult, IsSearchInRange}
use Rattle.tree_files.specs.Names.{compared}
use Rattle.tree_files.specs.Texts.{texts_in}
use Rattle.tree_files.proofs.Order.{indexed, placed}
use Rattle.tree_files.proofs.names.Names.place_of.Goals as goal

pub returns : goal.returns
returns c =
    let n = c.args.self.now in
    let t = c.args.name.now in
    let ord : ℕ → Ordering = λ i. compared (get_or (texts_in n) i []) t in
    let r = c.search_by.result in
    let is = c.deref.ensures.value in
    placed (texts_in n) (vec_items n.order) (indexed n) t r
    (subst (λ l. IsSearchInRange r (length l)) is c.search_by.ensures.bound)
    (subst (λ l. IsBinarySearchResult ord l r) is (c.search_by.ensures.position ord (always_returns_same _ _ _ (λ a r f q. search rules))))
