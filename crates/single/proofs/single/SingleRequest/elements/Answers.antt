use Rattle.std.proofs.Common.{length, sym, ap, ◌∙◌}
use Rattle.std.proofs.lemmas.List.{length-take-le}
use Rattle.single.proofs.Viewing.{content_length}
use Rattle.single.proofs.single.SingleRequest.elements.Goals as goal

pub returns : goal.returns
returns c =
    let s = c.args.self.now in
    ap length c.numbers.ensures ∙ length-take-le s.count s.chosen s.few ∙ sym (content_length s)
