use Rattle.fc_observe.proofs.Leaving.{observer_gone}
use Rattle.fc_observe.proofs.laws.ended_turns_remove_their_observer.Goals as goal

pub returns : goal.returns
returns c = observer_gone
