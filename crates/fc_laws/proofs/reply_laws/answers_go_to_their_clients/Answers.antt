use Rattle.fc_laws.proofs.front.Envelopes.{acknowledges, acknowledges_at_once, answers_at_once, answers_otherwise, hushed_at_once}
use Rattle.fc_laws.proofs.reply_laws.answers_go_to_their_clients.Goals as goal

pub returns-clause-confirmable : goal.returns-clause-confirmable
returns-clause-confirmable c = acknowledges

pub returns-clause-other : goal.returns-clause-other
returns-clause-other c = answers_otherwise

pub returns-clause-at_once : goal.returns-clause-at_once
returns-clause-at_once c = acknowledges_at_once

pub returns-clause-other_at_once : goal.returns-clause-other_at_once
returns-clause-other_at_once c = answers_at_once

pub returns-clause-none_at_once : goal.returns-clause-none_at_once
returns-clause-none_at_once c = hushed_at_once
