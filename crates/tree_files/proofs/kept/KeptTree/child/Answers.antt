use Rattle.std.proofs.Common.{sym, subst, rules}
use Rattle.std.proofs.lemmas.List.Sorted.{IsPartitionPoint-from_clause}
use Rattle.tree_files.specs.Links.{LinkAscending, link_less}
use Rattle.tree_files.proofs.Answering.{link_gives, least_found}
use Rattle.tree_files.proofs.Links.{less_first}
use Rattle.tree_files.proofs.kept.KeptTree.child.Goals as goal

pub returns : goal.returns
returns c =
    let k = c.args.self.now in
    let node = c.args.node in
    let from = c.args.from in
    let links = c.as_slice-links.result.now in
    let up : LinkAscending links = subst LinkAscending (sym c.as_slice-links.ensures.value) k.sorted in
    let p = IsPartitionPoint-from_clause (λ l. link_less l (node, from)) links c.partition_point-next.result c.partition_point-next.ensures.partitioned (less_first links up node from) (λ a r f q. search rules) in
    let g = link_gives node c.get.result c.filter.result c.map.result _ _ c.filter.ensures (λ x b q. search rules) c.map.ensures.cases (λ x n q. search rules) in
    least_found k node from links c.as_slice-links.ensures.value up c.partition_point-next.result p c.get.result c.map.result c.get.ensures.lookup.3 g
