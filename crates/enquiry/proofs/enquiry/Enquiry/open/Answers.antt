use Rattle.std.proofs.Common.{◌≡◌, Ok, sym, ap, ◌∙◌, subst}
use Rattle.model.specs.Content.{read_request}
use Rattle.model.specs.Spelling.{SpellingOf}
use Rattle.request.specs.Place.{bytes_of, content_of}
use Rattle.enquiry.specs.Calls.{content, read}
use Rattle.enquiry.proofs.Runs.{law}
use Rattle.enquiry.proofs.enquiry.Enquiry.open.Goals as goal

pub returns : goal.returns
returns g c =
    let tree = g.T.Tree.meaning c.args.tree.now in
    let bytes = c.args.bytes.now in
    let opened = c.in_ok-open.ensures in
    let same = c.restart.ensures.same in
    let reads : Ok (content c.restart.new.self) ≡ read_request bytes = ap (λ r. Ok (content_of r)) same ∙ opened.answer in
    let first = c.restart.ensures.starts (read bytes (sym opened.answer)) in
    record {
      answer = reads;
      spelled = subst (λ r. SpellingOf bytes (content_of r)) (sym same) opened.spelled;
      held = ap bytes_of same ∙ opened.held;
      opens = first;
      law = law tree bytes c.restart.new.self (g.T.Tree.limits c.args.tree.now) reads first;
    }
