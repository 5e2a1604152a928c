use Rattle.std.proofs.Common.{Ok, rules}
use Rattle.model.specs.PointFiles.{read_grants}
use Rattle.model.specs.PointSpelling.{GrantsSpelling}
use Rattle.model.proofs.PointSpelled.{points_accepted_exactly}
use Rattle.wire.proofs.Small.{all_bytes}
use Rattle.request.proofs.Opened.{opened}
use Rattle.grants.specs.Held.{lines_of}
use Rattle.grants.specs.Place.{grant_lines}
use Rattle.grants.specs.Refused.{in_grants_fault}
use Rattle.grants.proofs.grants.Grants.open.Goals as goal

pub returns-in_err-read-clause-spelled : goal.returns-in_err-read-clause-spelled
returns-in_err-read-clause-spelled c =
    let bytes = c.args.bytes.now in
    opened in_grants_fault GrantsSpelling bytes (read_grants bytes) (λ ls. points_accepted_exactly.1 bytes ls (all_bytes bytes c.type_inv.bytes)) (grant_lines c.args.self.now) c.from_residual.result (search rules)

pub returns-clause-spelled : goal.returns-clause-spelled
returns-clause-spelled c =
    let bytes = c.args.bytes.now in
    opened in_grants_fault GrantsSpelling bytes (read_grants bytes) (λ ls. points_accepted_exactly.1 bytes ls (all_bytes bytes c.type_inv.bytes)) (lines_of bytes c.swap.new.x) (Ok tt) (search rules)
