use Rattle.fc_laws.proofs.slots.Updates.{same_calls, same_stage}
use Rattle.fc_laws.proofs.slot_laws.kept_variables_change_no_answer.Goals as goal

pub returns-clause-answer : goal.returns-clause-answer
returns-clause-answer c = same_stage

pub returns-clause-calls : goal.returns-clause-calls
returns-clause-calls c = same_calls
