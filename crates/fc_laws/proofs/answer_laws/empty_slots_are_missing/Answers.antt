use Rattle.fc_laws.proofs.jobs.Reasons.{empty_misses}
use Rattle.fc_laws.proofs.answer_laws.empty_slots_are_missing.Goals as goal

pub returns : goal.returns
returns c = empty_misses
