use Rattle.std.proofs.Common.{◌≡◌, vec_items, vec_len, vec_capacity}
use Rattle.model.specs.TreeFiles.{one_link}
use Rattle.wire.proofs.Left.{Left}
use Rattle.tree_files.specs.Links.{Ends}
use Rattle.tree_files.proofs.read.links.read_links.Given as goal

abbrev pub invariant-loop-number : goal.invariant-loop-number
invariant-loop-number l = record {
  left : Left (one_link l.nodes) l.count l.number-counter (vec_items l.links) l.initial.reader l.reader;
  few : vec_len l.links ≡ l.number-counter;
  ends : Ends l.nodes (vec_items l.links);
  room : vec_capacity l.links ≡ vec_capacity l.initial.links;
}
