use Rattle.std.proofs.Common.{◌≡◌, ◌+◌, Some, sym, ap, ◌∙◌, subst}
use Rattle.model.specs.Lists.{nth}
use Rattle.model.specs.Rows.{listings, unknown, lists, choices, widths}
use Rattle.request.specs.Place.{content_of}
use Rattle.expansion.specs.Choice.{after_choice}
use Rattle.expansion.specs.Few.{held}
use Rattle.expansion.specs.Listed.{listed_of, listing_of, Names}
use Rattle.cursor.specs.Ahead.{from_reference}
use Rattle.cursor.proofs.Rows.{nth_some, reference_past, reference_here, first_choice}
use Rattle.cursor.proofs.cursor.Cursor.enter.Goals as goal

pub returns-in-None : goal.returns-in-None
returns-in-None g c = λ explored.
    let tree = g.T.Tree.meaning c.args.tree.now in
    let q = content_of c.args.request.now in
    record {
      over = record { explored = explored; stands = tt };
      ahead = sym (reference_past tree q c.args.reference (sym c.in-None.ensures.lists));
    }

pub returns-in-Some-Err : goal.returns-in-Some-Err
returns-in-Some-Err g c = λ explored.
    let tree = g.T.Tree.meaning c.args.tree.now in
    let q = content_of c.args.request.now in
    let r = c.args.reference in
    let l = unknown c.in-Some-Err.unknown.position in
    let at : nth (listings q) r ≡ Some l = sym c.in-Some-Err.ensures.lists ∙ ap (λ o. Some (listing_of q.elements o)) c.in-Some-Err.field-0-is in
    record {
      over = record { explored = explored; stands = (nth_some (listings q) r l at).0 };
      ahead = sym (reference_here tree q r l at);
    }

pub returns-in-Some-Ok : goal.returns-in-Some-Ok
returns-in-Some-Ok g c = λ explored.
    let tree = g.T.Tree.meaning c.args.tree.now in
    let q = content_of c.args.request.now in
    let r = c.args.reference in
    let ls = listed_of q.elements (held c.in-Some-Ok.listed) in
    let at : nth (listings q) r ≡ Some (lists ls) = sym c.in-Some-Ok.ensures.lists ∙ ap (λ o. Some (listing_of q.elements o)) c.in-Some-Ok.field-0-is in
    let ws = held c.widths-self.result in
    let ps = held c.first-self.result in
    let some = c.widths-self.ensures.positive in
    let before = c.settle.ensures explored (record {
      within = (nth_some (listings q) r (lists ls) at).0;
      named = subst (Names q.elements) c.in-Some-Ok.field-0-is c.in-Some-Ok.ensures.names;
      some = some;
      long = c.first-self.ensures.long;
    }) in
    record {
      over = before.over;
      ahead =
          before.ahead
          ∙ first_choice tree r ls ps (after_choice ws ps) (choices (widths ls)) (from_reference tree q (r + 1))
          (ap choices (sym c.widths-self.ensures.widths) ∙ c.first-self.ensures.walk some)
          ∙ sym (reference_here tree q r (lists ls) at);
    }
