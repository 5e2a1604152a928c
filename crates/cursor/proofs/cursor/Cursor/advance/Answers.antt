use Rattle.std.proofs.Common.{◌+◌, ◌<◌, ◌≤◌, length, sym, ap, ◌∙◌, arith}
use Rattle.std.proofs.lemmas.List.{length-map}
use Rattle.tree.specs.Reached.{node_of, nodes_reached}
use Rattle.request.specs.Place.{content_of}
use Rattle.cursor.specs.Ahead.{nodes_of, later}
use Rattle.cursor.proofs.Rows.{at_node, node_here, last_node}
use Rattle.cursor.proofs.cursor.Cursor.advance.Goals as goal

pub returns-then-place-saturating_sub : goal.returns-then-place-saturating_sub
returns-then-place-saturating_sub g c = λ few over.
    let tree = g.T.Tree.meaning c.args.tree.now in
    let q = content_of c.args.request.now in
    let self = c.args.self.now in
    let i = c.in-Node.place in
    let stands = at_node tree q self i over c.in-Node.is in
    let n = length-map c.nodes.result.now node_of in
    let m = ap (λ l. length (nodes_reached l)) c.nodes.ensures in
    let next : i + 1 < length (nodes_of self) = omega (arith, n, m) in
    let chosen = stands.0 in
    let choosing = chosen.choosing in
    record {
      over = record {
        explored = over.explored;
        stands = (
          record {
            choosing = record { within = choosing.within; named = choosing.named; some = choosing.some; long = choosing.long };
            named = chosen.named;
          },
          next,
        );
      };
      ahead = sym (ap later (node_here tree q self i c.in-Node.is stands.1));
    }

pub returns-else-place-saturating_sub : goal.returns-else-place-saturating_sub
returns-else-place-saturating_sub g c = λ few over.
    let tree = g.T.Tree.meaning c.args.tree.now in
    let q = content_of c.args.request.now in
    let self = c.args.self.now in
    let i = c.in-Node.place in
    let stands = at_node tree q self i over c.in-Node.is in
    let n = length-map c.nodes.result.now node_of in
    let m = ap (λ l. length (nodes_reached l)) c.nodes.ensures in
    let last : length (nodes_of self) ≤ i + 1 = omega (arith, n, m) in
    let before = c.leave_choice.ensures few over.explored stands.0.choosing in
    record {
      over = before.over;
      ahead = before.ahead ∙ sym (ap later (node_here tree q self i c.in-Node.is stands.1) ∙ last_node tree q self i last);
    }
