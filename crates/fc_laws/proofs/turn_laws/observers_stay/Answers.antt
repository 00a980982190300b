use Rattle.fc_laws.proofs.turns.Stayers.{stays_or_removed}
use Rattle.fc_laws.proofs.turn_laws.observers_stay.Goals as goal

pub returns : goal.returns
returns c = stays_or_removed
