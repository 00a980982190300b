use Rattle.fc_linear.proofs.Ordered.{whole}
use Rattle.fc_linear.proofs.laws.calls_are_one_history.Goals as goal

pub returns : goal.returns
returns c = whole
