use Rattle.fc_filed.proofs.Closing.{tracks_make_history}
use Rattle.fc_filed.proofs.laws.tracks_are_one_history.Goals as goal

pub returns : goal.returns
returns c = tracks_make_history
