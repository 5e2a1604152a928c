use Rattle.std.proofs.Common.{◌≡◌, Ok, refl, rules}
use Rattle.model.specs.Content.{Request, read_request}
use Rattle.model.specs.Spelling.{SpellingOf}
use Rattle.model.proofs.Spelled.{accepted_exactly}
use Rattle.request.specs.Answered.{answered}
use Rattle.request.specs.Held.{index_of}
use Rattle.request.specs.Refused.{in_request_fault}
use Rattle.request.proofs.Opened.{opened, of_a_request}
use Rattle.request.proofs.request.Request.open.Goals as goal

-- a refusal: what was held before is held
pub returns-in_err-read : goal.returns-in_err-read
returns-in_err-read c =
    let q : Request = index_of c.args.self.now.bytes.now c.args.self.now.index in
    let a : answered in_request_fault q c.from_residual.result ≡ read_request c.args.bytes.now = search rules in
    record { answer = a; spelled = of_a_request c.args.bytes.now q c.from_residual.result (opened in_request_fault SpellingOf c.args.bytes.now (read_request c.args.bytes.now) (accepted_exactly c.args.bytes.now) q c.from_residual.result a); held = search rules; kept = search rules }

pub returns : goal.returns
returns c =
    let q : Request = index_of c.args.bytes.now c.swap.new.x in
    let a : answered in_request_fault q (Ok tt) ≡ read_request c.args.bytes.now = search rules in
    record { answer = a; spelled = opened in_request_fault SpellingOf c.args.bytes.now (read_request c.args.bytes.now) (accepted_exactly c.args.bytes.now) q (Ok tt) a; held = refl; kept = tt }
