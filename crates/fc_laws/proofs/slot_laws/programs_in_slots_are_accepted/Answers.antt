use Rattle.fc_laws.proofs.slots.Causes.{images, of_image}
use Rattle.fc_laws.proofs.slot_laws.programs_in_slots_are_accepted.Goals as goal

pub returns-clause-changes : goal.returns-clause-changes
returns-clause-changes c = images

pub returns-clause-present : goal.returns-clause-present
returns-clause-present c = of_image
