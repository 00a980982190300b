use Rattle.fc_laws.proofs.turns.Resent.{none_resent, sent_again, sent_no_more}
use Rattle.fc_laws.proofs.shard_laws.ticks_send_overdue_notifications_again.Goals as goal

pub returns-clause-again : goal.returns-clause-again
returns-clause-again c = λ s i k now sent_at timeout count bytes x o first overdue phase few. sent_again s i k now sent_at timeout count bytes x o first overdue phase few

pub returns-clause-no_more : goal.returns-clause-no_more
returns-clause-no_more c = λ s i k now sent_at timeout count bytes x o first overdue phase all. sent_no_more s i k now sent_at timeout count bytes x o first overdue phase all

pub returns-clause-none : goal.returns-clause-none
returns-clause-none c = none_resent
