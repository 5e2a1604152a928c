use Rattle.std.proofs.Common.{◌≡◌, ◌≤◌, ◌++◌, length, take, drop, replicate, sym, ap, ◌∙◌, subst, arith, rules}
use Rattle.std.proofs.lemmas.List.{take-append-le, take_all}
use Rattle.model.specs.Law as law
use Rattle.enquiry.specs.Calls.{Answers, show_told}
use Rattle.enquiry.specs.Worked.{answer_of}
use Rattle.enquiry.proofs.enquiry.Enquiry.show_zeros.Goals as goal

pub returns : goal.returns
returns g c = λ point standing.
    let tree = g.T.Tree.meaning c.args.tree.now in
    let self = c.args.self.now in
    let buffer = c.in_ok-buffer.buffer in
    let after = c.show-shown.new.buffer in
    let zeros : c.as_mut_slice.result.now ≡ replicate c.args.size 0 = c.as_mut_slice.ensures.value ∙ c.in_ok-buffer.ensures.items_if_clones_equal (λ y h. h) in
    let fits : length after ≡ buffer.len = omega (arith, c.show-shown.auto.buffer, c.as_mut_slice.ensures.len) in
    let short : buffer.len ≤ length after = omega arith in
    let whole : take buffer.len (after ++ drop (length after) buffer.items) ≡ after =
    take-append-le buffer.len after (drop (length after) buffer.items) short ∙ take_all buffer.len after (omega arith) in
    let told : answer_of c.map.result ≡ show_told c.show-shown.result (take buffer.len (after ++ drop (length after) buffer.items)) = search rules in
    subst (λ b. Answers tree point self (law.show b) (answer_of c.map.result) self) zeros
    (subst (λ a. Answers tree point self (law.show c.as_mut_slice.result.now) a self) (sym (told ∙ ap (show_told c.show-shown.result) whole)) (c.show-shown.ensures.shows point standing))
