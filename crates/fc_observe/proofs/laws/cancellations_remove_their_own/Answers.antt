use Rattle.fc_observe.proofs.Resets.{just_its_own}
use Rattle.fc_observe.proofs.laws.cancellations_remove_their_own.Goals as goal

pub returns : goal.returns
returns c = just_its_own
