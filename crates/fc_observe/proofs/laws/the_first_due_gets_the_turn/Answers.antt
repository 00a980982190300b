use Rattle.fc_observe.proofs.First.{first_gets}
use Rattle.fc_observe.proofs.laws.the_first_due_gets_the_turn.Goals as goal

pub returns : goal.returns
returns c = first_gets
