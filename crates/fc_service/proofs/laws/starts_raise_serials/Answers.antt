use Rattle.std.proofs.Common.{◌∷◌}
use Rattle.fc_service.specs.Serials.{serial_over}
use Rattle.fc_service.proofs.FirstSerials.{starts_above}
use Rattle.fc_service.proofs.laws.starts_raise_serials.Goals as goal

pub returns-clause-above : goal.returns-clause-above
returns-clause-above c = starts_above

pub returns-clause-again : goal.returns-clause-again
returns-clause-again c = λ first second k ks below. starts_above second 0 (record k { serial = serial_over first (k ∷ ks) } ∷ ks) below
