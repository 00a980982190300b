use Rattle.fc_ticket.proofs.Endings.{content_ends, error_ends}
use Rattle.fc_ticket.proofs.laws.notifications_end_their_turns.Goals as goal

pub returns-clause-content : goal.returns-clause-content
returns-clause-content c = content_ends

pub returns-clause-error : goal.returns-clause-error
returns-clause-error c = error_ends
