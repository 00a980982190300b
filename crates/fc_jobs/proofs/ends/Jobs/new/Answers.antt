use Rattle.fc_jobs.proofs.Moves.{begins}
use Rattle.fc_jobs.proofs.ends.Jobs.new.Goals as goal

pub bounded_with-requires-clause-rule : goal.bounded_with-requires-clause-rule
bounded_with-requires-clause-rule g c = begins
