use Rattle.fc_kinds.proofs.CallLaws.{exits_step}
use Rattle.fc_kinds.proofs.laws.exits_contain_the_step.Goals as goal

pub returns : goal.returns
returns c = exits_step
