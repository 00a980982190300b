use Rattle.fc_kinds.proofs.MeaningLaws.{one_meaning}
use Rattle.fc_kinds.proofs.laws.runs_have_one_meaning.Goals as goal

pub returns : goal.returns
returns c = one_meaning
