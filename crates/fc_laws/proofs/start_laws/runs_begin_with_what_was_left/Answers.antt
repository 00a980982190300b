use Rattle.fc_laws.proofs.starts.Left.{same_program, serial_goes_on}
use Rattle.fc_laws.proofs.start_laws.runs_begin_with_what_was_left.Goals as goal

pub returns-clause-program : goal.returns-clause-program
returns-clause-program c = same_program

pub returns-clause-serial : goal.returns-clause-serial
returns-clause-serial c = serial_goes_on
