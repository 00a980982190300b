use Rattle.fc_laws.proofs.slots.Deletions.{deleted_is_empty}
use Rattle.fc_laws.proofs.answer_laws.deleted_slots_are_empty.Goals as goal

pub returns : goal.returns
returns c = deleted_is_empty
