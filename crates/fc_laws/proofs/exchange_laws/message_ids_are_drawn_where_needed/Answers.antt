use Rattle.fc_laws.proofs.front.Drawing.{needed_drawn, none_drawn_where_none_free, others_drawn}
use Rattle.fc_laws.proofs.front.Timers.{needs_without}
use Rattle.fc_laws.proofs.exchange_laws.message_ids_are_drawn_where_needed.Goals as goal

pub returns-clause-needed : goal.returns-clause-needed
returns-clause-needed c = needed_drawn

pub returns-clause-none_free : goal.returns-clause-none_free
returns-clause-none_free c = none_drawn_where_none_free

pub returns-clause-others : goal.returns-clause-others
returns-clause-others c = others_drawn

pub returns-clause-without_timers : goal.returns-clause-without_timers
returns-clause-without_timers c = needs_without
