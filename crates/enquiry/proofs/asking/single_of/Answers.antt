use Rattle.std.proofs.Common.{Some, sym, ap, ◌∙◌}
use Rattle.model.specs.Rows.{single_request}
use Rattle.request.specs.Place.{content_of}
use Rattle.expansion.specs.Few.{held}
use Rattle.expansion.specs.Listed.{listed_of}
use Rattle.enquiry.proofs.asking.single_of.Goals as goal

pub returns-in-None : goal.returns-in-None
returns-in-None g c = λ h.
    let tree = g.T.Tree.meaning c.args.tree.now in
    let ls = listed_of (content_of c.args.request.now).elements (held c.args.chosen.now) in
    c.in_ok-single.ensures.content tree h ∙ ap (λ n. Some (single_request tree n ls)) (sym c.in-None.is)
