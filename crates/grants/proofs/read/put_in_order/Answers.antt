use Rattle.std.proofs.Common.{◌≡◌, length, is_ok, sym, ◌∙◌}
use lib.ListN.{length-map}
use Rattle.std.proofs.lemmas.Bool.{cond-true}
use Rattle.grants.specs.Held.{line_of, lines_at}
use Rattle.grants.proofs.Order.{indexed_again, indexed_more}
use Rattle.grants.proofs.read.put_in_order.Goals as goal

pub returns-in_default-clause-indexed : goal.returns-in_default-clause-indexed
returns-in_default-clause-indexed c =
    let s = rw (c.as_slice.ensures.value, c.texts.ensures) at c.in_default.ensures in
    indexed_again _ _ _ c.requires.indexed _ s

pub returns-clause-indexed : goal.returns-clause-indexed
returns-clause-indexed c =
    let bytes = c.args.bytes.now in
    let lines = lines_at bytes c.args.lines.now in
    let p = rw (c.as_slice.ensures.value, c.texts.ensures) at c.in-Err.ensures in
    let n : length c.args.lines.now ≡ length lines = sym (length-map c.args.lines.now (line_of bytes)) in
    let put = c.insert.ensures.items ∙ cond-true (is_ok c.insert.result) _ _ (c.insert.ensures.succeeds c.requires.room) in
    rw (put, n) (indexed_more _ _ c.requires.indexed _ _ p)
