use Rattle.fc_laws.proofs.jobs.Ends.{install_refused, none_taken_later, take_refused}
use Rattle.fc_laws.proofs.laws.refused_memory_ends_a_job.Goals as goal

pub returns-clause-take : goal.returns-clause-take
returns-clause-take c = take_refused

pub returns-clause-install : goal.returns-clause-install
returns-clause-install c = install_refused

pub returns-clause-later : goal.returns-clause-later
returns-clause-later c = none_taken_later
