use Rattle.fc_laws.proofs.front.Repeats.{repeats_add_nothing, repeats_bring_nothing, repeats_draw_nothing, repeats_emit_again, repeats_open_nothing}
use Rattle.fc_laws.proofs.exchange_laws.repeats_do_nothing.Goals as goal

pub returns-clause-exchanges : goal.returns-clause-exchanges
returns-clause-exchanges c = repeats_open_nothing

pub returns-clause-tasks : goal.returns-clause-tasks
returns-clause-tasks c = repeats_bring_nothing

pub returns-clause-additions : goal.returns-clause-additions
returns-clause-additions c = repeats_add_nothing

pub returns-clause-ids : goal.returns-clause-ids
returns-clause-ids c = repeats_draw_nothing

pub returns-clause-emitted : goal.returns-clause-emitted
returns-clause-emitted c = repeats_emit_again
