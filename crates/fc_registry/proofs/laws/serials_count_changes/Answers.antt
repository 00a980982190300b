use Rattle.fc_registry.proofs.Installs.{serials_count}
use Rattle.fc_registry.proofs.laws.serials_count_changes.Goals as goal

pub returns : goal.returns
returns c = serials_count
