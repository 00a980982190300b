use Rattle.fc_observe.proofs.Waiting.{waits_end}
use Rattle.fc_observe.proofs.laws.acknowledgements_end_the_wait.Goals as goal

pub returns : goal.returns
returns c = waits_end
