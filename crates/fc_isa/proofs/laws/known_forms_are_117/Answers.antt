use Rattle.fc_isa.proofs.Rows.{known_rows}
use Rattle.fc_isa.proofs.laws.known_forms_are_117.Goals as goal

pub returns : goal.returns
returns c = known_rows
