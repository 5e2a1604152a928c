use Rattle.std.proofs.Common.{sym}
use Rattle.grants.proofs.Order.{first_granted, none_granted}
use Rattle.grants.proofs.grants.Grants.grant.Goals as goal

pub returns-in-Ok : goal.returns-in-Ok
returns-in-Ok c =
    let s = rw (c.as_slice.ensures.value, c.as_slice-order.ensures.value) at c.in-Ok.ensures in
    rw c.as_slice-order.ensures.value (sym (first_granted _ _ c.args.self.now.indexed _ _ s))

pub returns-in-Err : goal.returns-in-Err
returns-in-Err c =
    let p = rw (c.as_slice.ensures.value, c.as_slice-order.ensures.value) at c.in-Err.ensures in
    sym (none_granted _ _ c.args.self.now.indexed _ _ p)
