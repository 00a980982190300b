use Rattle.fc_isa.proofs.First.{faultless_none}
use Rattle.fc_isa.proofs.Slots.{spelled_faultless, spelled_once}
use Rattle.fc_isa.proofs.laws.spelled_bytes_are_faultless.Goals as goal

pub returns-clause-faultless : goal.returns-clause-faultless
returns-clause-faultless c = λ p s. faultless_none c.args.bytes.now (spelled_faultless c.args.bytes.now p s)

pub returns-clause-one_program : goal.returns-clause-one_program
returns-clause-one_program c = spelled_once c.args.bytes.now
