use Rattle.fc_receive.proofs.Told.{nobody_is_told, idle_is_told}
use Rattle.fc_receive.proofs.laws.shards_tell_what_is_so.Goals as goal

pub returns-clause-overdue : goal.returns-clause-overdue
returns-clause-overdue c = idle_is_told

pub returns-clause-due : goal.returns-clause-due
returns-clause-due c = nobody_is_told
