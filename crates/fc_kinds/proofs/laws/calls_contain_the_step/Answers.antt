use Rattle.fc_kinds.proofs.CallLaws.{calls_step}
use Rattle.fc_kinds.proofs.laws.calls_contain_the_step.Goals as goal

pub returns : goal.returns
returns c = calls_step
