use Rattle.fc_linear.proofs.Ordered.{empty_begins, restored_begins}
use Rattle.fc_linear.proofs.laws.new_servers_begin_a_history.Goals as goal

pub returns-clause-empty : goal.returns-clause-empty
returns-clause-empty c = empty_begins

pub returns-clause-restored : goal.returns-clause-restored
returns-clause-restored c = restored_begins
