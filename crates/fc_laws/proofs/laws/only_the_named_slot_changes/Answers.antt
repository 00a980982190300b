use Rattle.fc_laws.proofs.jobs.Others.{no_slot, other_slot}
use Rattle.fc_laws.proofs.laws.only_the_named_slot_changes.Goals as goal

pub returns-clause-named : goal.returns-clause-named
returns-clause-named c = other_slot

pub returns-clause-unnamed : goal.returns-clause-unnamed
returns-clause-unnamed c = no_slot
