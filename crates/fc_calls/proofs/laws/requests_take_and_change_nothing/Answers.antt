use Rattle.fc_calls.proofs.Snapshots.{takes_nothing}
use Rattle.fc_calls.proofs.laws.requests_take_and_change_nothing.Goals as goal

pub returns : goal.returns
returns c = takes_nothing
