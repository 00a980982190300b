use Rattle.fc_observe.proofs.Entering.{new_is_last, renewed_is_last}
use Rattle.fc_observe.proofs.laws.registrations_stand_last.Goals as goal

pub returns-clause-new : goal.returns-clause-new
returns-clause-new c = new_is_last

pub returns-clause-renewed : goal.returns-clause-renewed
returns-clause-renewed c = renewed_is_last
