use Rattle.fc_laws.proofs.jobs.NoOps.{no_ops_emit_nothing, no_ops_stay}
use Rattle.fc_laws.proofs.laws.no_ops_change_nothing.Goals as goal

pub returns-clause-seen : goal.returns-clause-seen
returns-clause-seen c = no_ops_stay

pub returns-clause-emitted : goal.returns-clause-emitted
returns-clause-emitted c = no_ops_emit_nothing
