use Rattle.fc_laws.proofs.jobs.Ends.{take_keeps}
use Rattle.fc_laws.proofs.laws.snapshots_keep_their_readings.Goals as goal

pub returns : goal.returns
returns c = take_keeps
