use Rattle.fc_laws.proofs.slots.Writing.{unwanted_changes_nothing}
use Rattle.fc_laws.proofs.slot_laws.gets_and_errors_change_nothing.Goals as goal

pub returns : goal.returns
returns c = unwanted_changes_nothing
