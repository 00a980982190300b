use Rattle.fc_laws.proofs.slots.Writing.{chains}
use Rattle.fc_laws.proofs.slot_laws.commits_are_a_chain.Goals as goal

pub returns : goal.returns
returns c = chains
