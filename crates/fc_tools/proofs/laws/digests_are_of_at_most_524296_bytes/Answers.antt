use Rattle.std.proofs.Common.{arith}
use Rattle.std.proofs.lemmas.List.{take_all}
use Rattle.fc_tools.proofs.laws.digests_are_of_at_most_524296_bytes.Goals as goal

pub returns-clause-whole : goal.returns-clause-whole
returns-clause-whole c = λ input short. take_all 524297 input (omega (arith, short))
