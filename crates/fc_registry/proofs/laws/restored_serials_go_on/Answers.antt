use Rattle.fc_registry.proofs.Restoring.{goes_on, raised_can}
use Rattle.fc_registry.proofs.laws.restored_serials_go_on.Goals as goal

pub returns-clause-serial : goal.returns-clause-serial
returns-clause-serial c = goes_on

pub returns-clause-can : goal.returns-clause-can
returns-clause-can c = raised_can
