use Rattle.fc_registry.proofs.Installs.{follows}
use Rattle.fc_registry.proofs.laws.versions_are_installs.Goals as goal

pub returns : goal.returns
returns c = follows
