use Rattle.std.proofs.Common.{ℕ, List, Bor, refl, ap, ◌∙◌}
use Rattle.tree_files.specs.Texts.{texts_in}
use Rattle.tree_files.proofs.Answering.{text_at}
use Rattle.tree_files.proofs.names.Names.text.Goals as goal

pub returns : goal.returns
returns c = ap (λ (x : Bor (List ℕ)). x.now) c.unwrap_or.ensures ∙ text_at (texts_in c.args.self.now) c.args.node c.get.result _ c.get.ensures refl
