use Rattle.fc_laws.proofs.front.Timers.{draws_nothing, dropped, stores_nothing}
use Rattle.fc_laws.proofs.timer_laws.answers_without_exchanges_are_dropped.Goals as goal

pub returns-clause-emitted : goal.returns-clause-emitted
returns-clause-emitted c = dropped

pub returns-clause-exchanges : goal.returns-clause-exchanges
returns-clause-exchanges c = stores_nothing

pub returns-clause-ids : goal.returns-clause-ids
returns-clause-ids c = draws_nothing
