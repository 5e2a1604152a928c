use Rattle.std.proofs.Common.{Some, vec_items, sym, ap, ◌∙◌}
use Rattle.std.proofs.lemmas.List.{get_or_default}
use Rattle.tree_files.specs.Texts.{texts_in}
use Rattle.tree_files.proofs.Order.{stands_at, stands_nowhere, one_numbered, indexed}
use Rattle.tree_files.proofs.names.Names.find.Goals as goal

pub returns-in_err-place : goal.returns-in_err-place
returns-in_err-place c = c.from_residual.ensures ∙ stands_nowhere c.args.self.now c.args.name.now c.place_of.result c.place_of.ensures c.in_err-place.ensures.value

pub returns : goal.returns
returns c =
    let n = c.args.self.now in
    let place = c.in_ok-place.place in
    let s = stands_at (texts_in n) (vec_items n.order) c.args.name.now c.place_of.result place c.place_of.ensures c.in_ok-place.ensures.value in
    ap Some (c.index.ensures ∙ get_or_default (vec_items n.order) place c.index.result.now 0 s.high) ∙ sym (one_numbered (texts_in n) (vec_items n.order) (indexed n) c.args.name.now place s)
