use Rattle.fc_laws.proofs.slots.Published.{publishes}
use Rattle.fc_laws.proofs.slot_laws.raised_words_are_of_slots.Goals as goal

pub returns : goal.returns
returns c = publishes
