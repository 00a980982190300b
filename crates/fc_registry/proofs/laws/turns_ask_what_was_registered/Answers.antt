use Rattle.fc_registry.proofs.Asked.{turn_asks}
use Rattle.fc_registry.proofs.laws.turns_ask_what_was_registered.Goals as goal

pub returns : goal.returns
returns c = turn_asks
