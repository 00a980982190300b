use Rattle.fc_locked.proofs.TwoInstalls.{stored_serials, two_serials}
use Rattle.fc_locked.proofs.laws.two_threads_install_at_two_serials.Goals as goal

pub returns-clause-new : goal.returns-clause-new
returns-clause-new c = two_serials

pub returns-clause-stored : goal.returns-clause-stored
returns-clause-stored c = stored_serials
