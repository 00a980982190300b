use Rattle.fc_laws.proofs.jobs.Snapshots.{earlier_retakes, eighth_ends, few}
use Rattle.fc_laws.proofs.laws.snapshots_are_few.Goals as goal

pub returns-clause-few : goal.returns-clause-few
returns-clause-few c = few

pub returns-clause-eighth : goal.returns-clause-eighth
returns-clause-eighth c = eighth_ends

pub returns-clause-earlier : goal.returns-clause-earlier
returns-clause-earlier c = earlier_retakes
