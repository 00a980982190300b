use Rattle.fc_registry.proofs.Restoring.{restored_as}
use Rattle.fc_registry.proofs.laws.restored_slots_are_as_stored.Goals as goal

pub returns : goal.returns
returns c = restored_as
