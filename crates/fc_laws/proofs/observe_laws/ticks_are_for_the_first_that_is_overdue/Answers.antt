use Rattle.fc_laws.proofs.turns.Turning.{overdue_first, overdue_none}
use Rattle.fc_core.proofs.Watches.{ticked_first, ticked_none, ticked_others}
use Rattle.fc_laws.proofs.observe_laws.ticks_are_for_the_first_that_is_overdue.Goals as goal

pub returns-clause-first : goal.returns-clause-first
returns-clause-first c = ticked_first

pub returns-clause-others : goal.returns-clause-others
returns-clause-others c = ticked_others

pub returns-clause-none : goal.returns-clause-none
returns-clause-none c = ticked_none

pub returns-clause-found : goal.returns-clause-found
returns-clause-found c = overdue_first

pub returns-clause-not_found : goal.returns-clause-not_found
returns-clause-not_found c = overdue_none
