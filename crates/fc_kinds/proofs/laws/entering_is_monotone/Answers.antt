use Rattle.fc_kinds.proofs.TransferLaws.{enter_within}
use Rattle.fc_kinds.proofs.laws.entering_is_monotone.Goals as goal

pub returns : goal.returns
returns c = enter_within
