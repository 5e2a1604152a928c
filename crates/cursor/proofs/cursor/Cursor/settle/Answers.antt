use Rattle.std.proofs.Common.{◌<◌, ◌++◌, map, length, Ok, sym, ap, ◌∙◌, subst, arith}
use Rattle.model.specs.Rows.{resource, scope, node_spot}
use Rattle.model.proofs.Asked.{asked_node}
use Rattle.tree.specs.Reached.{extent_of}
use Rattle.request.specs.Place.{content_of}
use Rattle.single.specs.Numbers.{numbered, past}
use Rattle.expansion.specs.Few.{held}
use Rattle.expansion.specs.Asked.{scope_of}
use Rattle.expansion.specs.Listed.{listed_at, listed_of}
use Rattle.cursor.specs.Ahead.{listed, chosen, nodes_of, of_choice, after_choices, Unmoved}
use Rattle.cursor.proofs.Rows.{after_same, choosing_same, choice_below, reached_some}
use Rattle.cursor.proofs.cursor.Cursor.settle.Goals as goal

pub returns-in-Ok-Some : goal.returns-in-Ok-Some
returns-in-Ok-Some g c = λ explored choosing.
    let tree = g.T.Tree.meaning c.args.tree.now in
    let q = content_of c.args.request.now in
    let self = c.args.self.now in
    let left = c.explore.new.self in
    let moved = c.explore.ensures.unmoved in
    let u : Unmoved self left = record { reference = moved.reference; listed = moved.listed; widths = moved.widths; choice = moved.choice } in
    let same = choosing_same tree q self left u choosing in
    let kept = c.explore.ensures.chosen in
    let found = c.explore.ensures.reaches explored in
    let x = extent_of c.in-Ok-Some.wanted.extent in
    let a = c.in-Ok-Some.wanted.node in
    let l = listed_at q.elements c.in-Some.element in
    let asks = ap (λ o. scope_of (Ok o)) (sym c.in-Ok-Some.field-0-is) ∙ c.in-Ok-Some.ensures ∙ ap (λ k. scope tree (numbered q.elements k)) c.from.ensures in
    let within = asked_node tree (numbered q.elements c.in-Some.element) x a (sym asks) in
    let here =
    choice_below tree self.reference (listed q self) (held self.choice) (chosen q left) l x a (nodes_of left)
    (ap (λ f. listed_of q.elements (held f)) kept ∙ c.chosen-self.ensures.chosen)
    (c.in-Some.ensures ∙ ap (λ f. resource (listed_of q.elements (held f))) (sym kept)) asks found.nodes in
    record {
      over = record {
        explored = found.explored;
        stands = (
          record {
            choosing = record { within = same.within; named = same.named; some = same.some; long = same.long };
            named = omega (arith, ap (λ f. past (held f)) kept, c.chosen-self.ensures.names, choosing.named);
          },
          subst (λ ns. 0 < length ns) (sym found.nodes) (reached_some tree a within x),
        );
      };
      ahead =
          (λ i. map (node_spot tree (u.reference i) (held (u.choice i)) (chosen q left)) (nodes_of left) ++ after_choices tree q left)
          ∙ ap (λ ss. ss ++ after_choices tree q left) here
          ∙ ap (λ ss. of_choice tree q self ++ ss) (after_same tree q self left u);
    }
