use Rattle.fc_laws.proofs.front.Timers.{remains_post, timer_draws_nothing, timer_dropped, timer_stores_nothing}
use Rattle.fc_laws.proofs.timer_laws.answers_of_timers_are_dropped.Goals as goal

pub returns-clause-post : goal.returns-clause-post
returns-clause-post c = remains_post

pub returns-clause-emitted : goal.returns-clause-emitted
returns-clause-emitted c = timer_dropped

pub returns-clause-exchanges : goal.returns-clause-exchanges
returns-clause-exchanges c = timer_stores_nothing

pub returns-clause-ids : goal.returns-clause-ids
returns-clause-ids c = timer_draws_nothing
