use Rattle.fc_kinds.proofs.MeaningLaws.{meant_is_shown}
use Rattle.fc_kinds.proofs.laws.programs_mean_what_runs_show.Goals as goal

pub returns : goal.returns
returns c = meant_is_shown
