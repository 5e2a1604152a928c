use Rattle.std.proofs.Common.{◌≡◌, length}
use Rattle.model.specs.TreeFiles.{one_name}
use Rattle.wire.proofs.Left.{Left}
use Rattle.tree_files.specs.Texts.{texts_in}
use Rattle.tree_files.proofs.read.names.read_names.Given as goal

abbrev pub invariant-loop-number : goal.invariant-loop-number
invariant-loop-number g l = record {
  left : Left (one_name g.F.Format.wrong) l.count l.number-counter (texts_in l.names) l.initial.reader l.reader;
  bytes : l.names.bytes.now ≡ l.initial.names.bytes.now;
  number : length (texts_in l.names) ≡ l.number-counter;
}
