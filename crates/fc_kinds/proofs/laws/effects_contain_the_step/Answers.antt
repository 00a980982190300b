use Rattle.fc_kinds.proofs.StepLaws.{steps_along}
use Rattle.fc_kinds.proofs.laws.effects_contain_the_step.Goals as goal

pub returns : goal.returns
returns c = steps_along
