use Rattle.fc_registry.proofs.Outcomes.{by_serials}
use Rattle.fc_registry.proofs.laws.serials_decide.Goals as goal

pub returns : goal.returns
returns c = by_serials
