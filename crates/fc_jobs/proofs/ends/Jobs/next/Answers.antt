use Rattle.fc_jobs.proofs.Moves.{takes}
use Rattle.fc_jobs.proofs.ends.Jobs.next.Goals as goal

pub recv_as-requires-clause-rule : goal.recv_as-requires-clause-rule
recv_as-requires-clause-rule g c = (takes _ _ c.got.invariant.0, λ items views h at. tt)
