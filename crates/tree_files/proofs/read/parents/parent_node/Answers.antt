use Rattle.tree_files.proofs.Order.{indexed}
use Rattle.tree_files.proofs.Segments.{node_of_parent}
use Rattle.tree_files.specs.Texts.{texts_in}
use Rattle.tree_files.proofs.read.parents.parent_node.Goals as goal

pub returns : goal.returns
returns c = let n = c.args.names.now in node_of_parent (texts_in n) n.order.items (indexed n) c.args.path.now c.in_ok-parent_path.field-0.now c.in_ok-parent_path.ensures c.find.result c.find.ensures
