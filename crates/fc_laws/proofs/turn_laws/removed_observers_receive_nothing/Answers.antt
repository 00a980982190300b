use Rattle.fc_laws.proofs.turns.Notices.{notified_held, resent_held}
use Rattle.fc_laws.proofs.turn_laws.removed_observers_receive_nothing.Goals as goal

pub returns-clause-notified : goal.returns-clause-notified
returns-clause-notified c = notified_held

pub returns-clause-resent : goal.returns-clause-resent
returns-clause-resent c = resent_held
