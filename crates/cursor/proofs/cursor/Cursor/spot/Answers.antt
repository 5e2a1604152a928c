use Rattle.std.proofs.Common.{get_or, Some, sym, ap, ◌∙◌, subst}
use Rattle.std.proofs.lemmas.List.{get_or-map}
use Rattle.model.specs.Rows.{node_spot}
use Rattle.tree.specs.Reached.{node_of, nodes_reached}
use Rattle.expansion.specs.Few.{held}
use Rattle.cursor.specs.Spots.{spot_of, BasisNames}
use Rattle.cursor.specs.Ahead.{chosen, next_of}
use Rattle.cursor.proofs.Rows.{at_node, node_here}
use Rattle.cursor.proofs.cursor.Cursor.spot.Goals as goal

pub returns-in_ok-reached-in-Node : goal.returns-in_ok-reached-in-Node
returns-in_ok-reached-in-Node c = λ tree q o.
    let self = c.args.self.now in
    let i = c.in-Node.place in
    let stands = at_node tree q self i o c.in-Node.is in
    let reached = c.in_ok-reached-in-Node.reached.now in
    let here = (c.in_ok-reached-in-Node.ensures {u = tt}).lookup.3 in
    let n =
    ap (λ l. get_or (nodes_reached l) i 0) (sym c.nodes.ensures)
    ∙ get_or-map node_of c.nodes.result.now i reached 0 here.0
    ∙ ap node_of (sym (here.1 reached)) in
    record {
      next =
          ap (λ s. Some (spot_of tree q.elements s)) c.in_choice-in-Node.ensures
          ∙ ap (λ k. Some (node_spot tree self.reference (held self.choice) (chosen q self) k)) (sym n)
          ∙ sym (ap next_of (node_here tree q self i c.in-Node.is stands.1));
      names = subst (λ s. BasisNames q.elements s.basis) (sym c.in_choice-in-Node.ensures) stands.0.named;
    }
