use Rattle.fc_laws.proofs.turns.Turning.{due_brings, due_first, due_gives, due_none, due_others, no_job_due, nobody_due}
use Rattle.fc_laws.proofs.observe_laws.turns_are_for_the_first_that_is_due.Goals as goal

pub returns-clause-found : goal.returns-clause-found
returns-clause-found c = due_first

pub returns-clause-not_found : goal.returns-clause-not_found
returns-clause-not_found c = due_none

pub returns-clause-brings : goal.returns-clause-brings
returns-clause-brings c = due_brings

pub returns-clause-gives : goal.returns-clause-gives
returns-clause-gives c = due_gives

pub returns-clause-others : goal.returns-clause-others
returns-clause-others c = due_others

pub returns-clause-nobody : goal.returns-clause-nobody
returns-clause-nobody c = nobody_due

pub returns-clause-no_job : goal.returns-clause-no_job
returns-clause-no_job c = no_job_due
