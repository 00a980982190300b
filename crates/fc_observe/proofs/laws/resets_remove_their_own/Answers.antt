use Rattle.fc_observe.proofs.Resets.{just_those}
use Rattle.fc_observe.proofs.laws.resets_remove_their_own.Goals as goal

pub returns : goal.returns
returns c = just_those
