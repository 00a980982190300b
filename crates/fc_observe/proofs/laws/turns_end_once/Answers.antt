use Rattle.fc_observe.proofs.Turns.{ended_over, given_up_over, notified_over, one_turn}
use Rattle.fc_observe.proofs.laws.turns_end_once.Goals as goal

pub returns-clause-one : goal.returns-clause-one
returns-clause-one c = one_turn

pub returns-clause-notified : goal.returns-clause-notified
returns-clause-notified c = notified_over

pub returns-clause-ended : goal.returns-clause-ended
returns-clause-ended c = ended_over

pub returns-clause-given_up : goal.returns-clause-given_up
returns-clause-given_up c = given_up_over
