use Rattle.fc_linear.proofs.Ordered.{ends}
use Rattle.fc_linear.proofs.laws.calls_continue_a_history.Goals as goal

pub returns : goal.returns
returns c = ends
