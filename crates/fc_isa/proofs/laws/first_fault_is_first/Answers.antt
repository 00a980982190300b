use Rattle.fc_isa.proofs.First.{is_first_fault, first_fault_is}
use Rattle.fc_isa.proofs.Low.{low_fault_at}
use Rattle.fc_isa.proofs.laws.first_fault_is_first.Goals as goal

pub returns-clause-is_first : goal.returns-clause-is_first
returns-clause-is_first c = is_first_fault c.args.bytes.now

pub returns-clause-only_first : goal.returns-clause-only_first
returns-clause-only_first c = first_fault_is c.args.bytes.now

pub returns-clause-low : goal.returns-clause-low
returns-clause-low c = λ rule slot e. low_fault_at c.args.bytes.now slot rule e
