use Rattle.fc_observe.proofs.Resending.{removed_at_last, sent_again}
use Rattle.fc_observe.proofs.laws.notifications_are_retransmitted.Goals as goal

pub returns-clause-same : goal.returns-clause-same
returns-clause-same c = sent_again

pub returns-clause-removed : goal.returns-clause-removed
returns-clause-removed c = removed_at_last
