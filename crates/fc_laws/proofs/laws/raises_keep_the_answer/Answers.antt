use Rattle.fc_laws.proofs.jobs.Ends.{raise_keeps}
use Rattle.fc_laws.proofs.laws.raises_keep_the_answer.Goals as goal

pub returns : goal.returns
returns c = raise_keeps
