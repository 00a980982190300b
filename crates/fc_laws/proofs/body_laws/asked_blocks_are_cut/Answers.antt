use Rattle.fc_laws.proofs.front.Bodies.{asked_cut}
use Rattle.fc_laws.proofs.body_laws.asked_blocks_are_cut.Goals as goal

pub returns : goal.returns
returns c = asked_cut
