use Rattle.fc_observe.proofs.Missing.{missing_after, new_present}
use Rattle.fc_observe.proofs.laws.turns_keep_what_they_missed.Goals as goal

pub returns-clause-missed : goal.returns-clause-missed
returns-clause-missed c = missing_after

pub returns-clause-new : goal.returns-clause-new
returns-clause-new c = new_present
