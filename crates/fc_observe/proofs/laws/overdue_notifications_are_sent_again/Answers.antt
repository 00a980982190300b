use Rattle.fc_observe.proofs.Again.{first_is_sent}
use Rattle.fc_observe.proofs.laws.overdue_notifications_are_sent_again.Goals as goal

pub returns : goal.returns
returns c = first_is_sent
