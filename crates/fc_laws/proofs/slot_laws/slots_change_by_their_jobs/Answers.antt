use Rattle.fc_laws.proofs.slots.Causes.{does}
use Rattle.fc_laws.proofs.slot_laws.slots_change_by_their_jobs.Goals as goal

pub returns : goal.returns
returns c = does
