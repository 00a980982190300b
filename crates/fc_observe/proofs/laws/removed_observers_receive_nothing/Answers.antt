use Rattle.fc_observe.specs.Observers.{is_out}
use Rattle.fc_observe.proofs.Hearing.{found_held, resent_of_held, stays_gone, stays_out}
use Rattle.fc_observe.proofs.laws.removed_observers_receive_nothing.Goals as goal

pub returns-clause-gone : goal.returns-clause-gone
returns-clause-gone c = stays_gone

pub returns-clause-over : goal.returns-clause-over
returns-clause-over c = stays_out

pub returns-clause-out : goal.returns-clause-out
returns-clause-out c = λ turn t o found. found_held (is_out turn t) t.held o found

pub returns-clause-resent : goal.returns-clause-resent
returns-clause-resent c = resent_of_held
