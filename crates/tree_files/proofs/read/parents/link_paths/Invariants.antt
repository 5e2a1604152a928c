use Rattle.std.proofs.Common.{◌≡◌, ◌≤◌, length, vec_items, vec_len, vec_capacity}
use Rattle.tree_files.specs.Links.{Ends}
use Rattle.tree_files.specs.Segments.{LinkedBelow}
use Rattle.tree_files.specs.Texts.{texts_in}
use Rattle.tree_files.proofs.read.parents.link_paths.Given as goal

abbrev pub invariant-loop-child : goal.invariant-loop-child
invariant-loop-child l = record {
  linked : LinkedBelow (texts_in l.names) (vec_items l.links) l.child;
  ends : Ends (length (texts_in l.names)) (vec_items l.links);
  few : vec_len l.links ≤ l.child;
  room : vec_capacity l.links ≡ vec_capacity l.initial.links;
}
