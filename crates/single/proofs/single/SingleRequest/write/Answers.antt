use Rattle.std.proofs.Common.{◌≤◌, length, ◌∙◌, subst}
use Rattle.single.specs.Single.{content}
use Rattle.single.specs.Written.{bytes_for}
use Rattle.single.proofs.Laying.{laid_over}
use Rattle.single.proofs.single.SingleRequest.write.Goals as goal

pub returns-clause-written : goal.returns-clause-written
returns-clause-written c =
    let bytes = bytes_for (content c.args.self.now) in
    let room : length bytes ≤ length c.args.buffer.now = subst (λ n. n ≤ length c.args.buffer.now) c.len-needed.ensures.count c.if-buffer-needed.false in
    (c.put_all.ensures.next, c.put_all.ensures.over ∙ laid_over bytes c.args.buffer.now room)
