use Rattle.fc_core.proofs.Watches.{acknowledged_here, reset_here, signalled_elsewhere}
use Rattle.fc_laws.proofs.observe_laws.signals_are_for_their_shard.Goals as goal

pub returns-clause-reset : goal.returns-clause-reset
returns-clause-reset c = reset_here

pub returns-clause-acknowledged : goal.returns-clause-acknowledged
returns-clause-acknowledged c = acknowledged_here

pub returns-clause-elsewhere : goal.returns-clause-elsewhere
returns-clause-elsewhere c = signalled_elsewhere
