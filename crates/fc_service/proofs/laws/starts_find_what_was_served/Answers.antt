use Rattle.std.proofs.Common.{◌+◌, length}
use Rattle.fc_filed.proofs.Recovered.{finds_history}
use Rattle.fc_backend.specs.Messages.{first_brought}
use Rattle.fc_locked.specs.OneOrder.{logs_of}
use Rattle.fc_service.proofs.FirstSerials.{restored_are_stored}
use Rattle.fc_service.proofs.laws.starts_find_what_was_served.Goals as goal

pub returns-clause-begun : goal.returns-clause-begun
returns-clause-begun g c = restored_are_stored

-- the law about any server, of the one order of this server's calls.
pub returns-clause-found : goal.returns-clause-found
returns-clause-found g c timers every workers limit start stored before after replies h earlier later w persistent begun serves is =
    let first_job = 10 + length (logs_of w.shares w.last.done.share) in
    finds_history g.P.Store first_job (first_brought first_job) start _ stored earlier later h w.closed.shards
    w.order.order.calls persistent serves w.order.right w.order.order.keyed begun w.saved is
