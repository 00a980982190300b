use Rattle.fc_laws.proofs.front.FirstBlocks.{errors_are_bare}
use Rattle.fc_laws.proofs.answer_laws.errors_carry_no_block.Goals as goal

pub returns : goal.returns
returns c = errors_are_bare
