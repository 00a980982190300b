use Rattle.fc_laws.proofs.slots.Updates.{keeps_vars, zeros_asked, zeros_empty, zeros_unlike}
use Rattle.fc_laws.proofs.slot_laws.updates_keep_variables.Goals as goal

pub returns-clause-kept : goal.returns-clause-kept
returns-clause-kept c = keeps_vars

pub returns-clause-other_size : goal.returns-clause-other_size
returns-clause-other_size c = zeros_unlike

pub returns-clause-empty : goal.returns-clause-empty
returns-clause-empty c = zeros_empty

pub returns-clause-zeroed : goal.returns-clause-zeroed
returns-clause-zeroed c = zeros_asked
