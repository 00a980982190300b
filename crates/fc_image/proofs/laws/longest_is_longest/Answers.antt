use Rattle.fc_image.proofs.LoopLaws.{longest_is}
use Rattle.fc_image.proofs.laws.longest_is_longest.Goals as goal

pub returns : goal.returns
returns c = longest_is
