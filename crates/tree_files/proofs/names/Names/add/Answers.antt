use Rattle.std.proofs.Common.{◌+◌, ◌<◌, is_ok, vec_items, vec_len, vec_capacity, ◌∙◌, arith}
use Rattle.std.proofs.lemmas.Bool.{cond-true}
use Rattle.tree_files.specs.Limited.{as_many}
use Rattle.tree_files.specs.Names.{Indexed, texts_of}
use Rattle.tree_files.proofs.Order.{indexed, names_more}
use Rattle.tree_files.proofs.names.Names.add.Goals as goal

pub invariant_of-self : goal.invariant_of-self
invariant_of-self c =
    let n = c.args.self.now in
    let bytes = n.bytes.now in
    let count = as_many n in
    let room : vec_len n.order < vec_capacity n.order = omega (arith, n.as_many, count, n.order_room, c.requires.few) in
    let put = c.insert.ensures.items ∙ cond-true (is_ok c.insert.result) _ _ (c.insert.ensures.succeeds room) in
    let x : Indexed (texts_of bytes (vec_items c.push_reserved.new.self)) (vec_items c.insert.new.self) = names_more bytes (vec_items n.spans) (vec_items n.order) _ _ c.args.new.name c.args.new.at _ (indexed n) c.requires.fresh c.push_reserved.ensures.items put (c.len-node.ensures ∙ count) in
    record {
      span_room = omega (arith, n.span_room, c.push_reserved.ensures.capacity);
      order_room = omega (arith, n.order_room, c.insert.ensures.capacity);
      few = omega (arith, c.push_reserved.ensures.len, count, c.requires.few);
      as_many = omega (arith, c.insert.ensures.len, cond-true (is_ok c.insert.result) (vec_len n.order + 1) (vec_len n.order) (c.insert.ensures.succeeds room), c.push_reserved.ensures.len, n.as_many);
      named = x.named;
      inside = x.inside;
      ascending = x.ascending;
      complete = x.complete;
    }
