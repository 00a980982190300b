use Rattle.fc_laws.proofs.turns.Turning.{given_up_elsewhere, given_up_gone, given_up_here, lost_keeps}
use Rattle.fc_laws.proofs.observe_laws.turns_are_given_up_or_lost.Goals as goal

pub returns-clause-given_up : goal.returns-clause-given_up
returns-clause-given_up c = given_up_here

pub returns-clause-gone : goal.returns-clause-gone
returns-clause-gone c = given_up_gone

pub returns-clause-elsewhere : goal.returns-clause-elsewhere
returns-clause-elsewhere c = given_up_elsewhere

pub returns-clause-lost : goal.returns-clause-lost
returns-clause-lost c = lost_keeps
