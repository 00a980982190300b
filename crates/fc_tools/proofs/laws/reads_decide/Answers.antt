use Rattle.fc_tools.proofs.Deciding.{reads_decide}
use Rattle.fc_tools.proofs.laws.reads_decide.Goals as goal

pub returns : goal.returns
returns c = reads_decide
