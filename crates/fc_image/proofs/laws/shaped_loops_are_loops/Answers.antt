use Rattle.fc_image.proofs.LoopLaws.{has_loops}
use Rattle.fc_image.proofs.laws.shaped_loops_are_loops.Goals as goal

pub returns : goal.returns
returns c = has_loops
