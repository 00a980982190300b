use Rattle.fc_laws.proofs.slots.Causes.{refused_stays}
use Rattle.fc_laws.proofs.slot_laws.refused_images_change_nothing.Goals as goal

pub returns : goal.returns
returns c = refused_stays
