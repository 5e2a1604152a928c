use Rattle.std.proofs.Common.{◌≡◌, Ok, rules}
use Rattle.tree_files.specs.Answered.{answered}
use Rattle.tree_files.specs.Kept.{tree_of}
use Rattle.tree_files.specs.Refused.{in_tree_fault}
use Rattle.tree_files.proofs.Spelling.{opened}
use Rattle.tree_files.proofs.file.TreeFile.open.Goals as goal

pub returns-in_err-read-clause-spelled : goal.returns-in_err-read-clause-spelled
returns-in_err-read-clause-spelled g c =
    let t = tree_of c.args.self.now.kept in
    let a : answered in_tree_fault t c.from_residual.result ≡ g.F.Format.reading c.args.bytes.now = search rules in
    opened in_tree_fault g.F.Format.reading g.F.Format.Spelling g.met.F.Format.accepted_exactly c.args.bytes.now c.type_inv.bytes t c.from_residual.result a

pub returns-clause-spelled : goal.returns-clause-spelled
returns-clause-spelled g c =
    let t = tree_of c.take.new.self in
    let a : answered in_tree_fault t (Ok tt) ≡ g.F.Format.reading c.args.bytes.now = search rules in
    opened in_tree_fault g.F.Format.reading g.F.Format.Spelling g.met.F.Format.accepted_exactly c.args.bytes.now c.type_inv.bytes t (Ok tt) a
