use Rattle.std.proofs.Common.{ℕ, ◌∷◌, length, sym, ap, ◌∙◌, rules}
use Rattle.std.proofs.lemmas.List.{length-replicate}
use Rattle.expansion.specs.Few.{held}
use Rattle.expansion.specs.Choice.{after_choice}
use Rattle.expansion.proofs.Fews.{mapped}
use Rattle.expansion.proofs.Successor.{all_zeros, first_walk}
use Rattle.expansion.proofs.choice.first.Goals as goal

pub returns : goal.returns
returns c =
    let ws = held c.args.widths.now in
    let first = mapped (λ _. 0) _ ws (held c.map.result) c.map.ensures (λ x y r. search rules) ∙ all_zeros ws in
    record {
      first = first;
      walk = λ h. first_walk ws h ∙ ap (λ z. z ∷ after_choice ws z) (sym first);
      long = ap length first ∙ length-replicate {A = ℕ} (length ws) 0;
    }
