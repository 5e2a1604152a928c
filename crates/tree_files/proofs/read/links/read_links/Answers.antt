use Rattle.std.proofs.Common.{◌≡◌, drop, vec_items, sym, subst, ◌∙◌, arith, rules}
use Rattle.model.specs.Layout.{got}
use Rattle.model.specs.TreeFiles.{one_link}
use Rattle.wire.specs.Told.{from}
use Rattle.wire.proofs.Left.{one_less, left_more}
use Rattle.tree_files.proofs.Links.{ends_push}
use Rattle.tree_files.specs.Links.{Ends}
use Rattle.tree_files.proofs.read.links.read_links.Goals as goal

pub returns-in_err-link-clause-read : goal.returns-in_err-link-clause-read
returns-in_err-link-clause-read c = search (rules, one_less)

pub loop-number-preserved : goal.loop-number-preserved
loop-number-preserved c =
    let k = c.loop-number.invariant in
    let n = c.loop-number.number-counter in
    let nodes = c.args.nodes in
    let x = c.in_ok-link.link in
    let i = c.push_reserved.ensures.items in
    let o = c.read_link-read.ensures in
    let held = vec_items c.loop-number.links in
    let after = c.read_link-read.new.reader in
    let r : got x after.place (drop after.place after.bytes.now) ≡ from c.loop-number.reader (one_link nodes n held) = search rules in
    record {
      left = left_more (one_link nodes) c.from-count.result n held (vec_items c.push_reserved.new.self) c.wide.new.self c.loop-number.reader after x k.left (omega arith) i o.read.same r;
      few = omega arith;
      ends = subst (Ends nodes) (sym i) (ends_push nodes held x k.ends (search rules) (search rules));
      room = c.push_reserved.ensures.capacity ∙ k.room;
    }
