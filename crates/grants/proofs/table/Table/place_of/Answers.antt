use Rattle.std.proofs.Common.{rules}
use Rattle.std.proofs.lemmas.Fn.{always_returns_same}
use Rattle.grants.specs.Order.{compared, no_line}
use Rattle.grants.specs.Texts.{texts_line, table_lines}
use Rattle.grants.proofs.Order.{searched}
use Rattle.std.proofs.Common.{get_or}
use Rattle.grants.proofs.table.Table.place_of.Goals as goal

pub returns : goal.returns
returns c =
    let table = c.args.self.now in
    let q = texts_line c.args.asked.now in
    let facts = c.search_by.ensures in
    searched (table_lines table) table.order.now table.indexed q _ facts.bound
    (facts.position (λ n. compared (get_or (table_lines table) n no_line) q) (always_returns_same _ _ _ (λ a r g called. search rules)))
