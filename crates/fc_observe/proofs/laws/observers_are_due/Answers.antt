use Rattle.fc_observe.proofs.Due.{due_just}
use Rattle.fc_observe.proofs.laws.observers_are_due.Goals as goal

pub returns : goal.returns
returns c = due_just
