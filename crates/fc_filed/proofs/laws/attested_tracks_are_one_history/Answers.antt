use Rattle.fc_filed.proofs.Closing.{attested_make_history}
use Rattle.fc_filed.proofs.laws.attested_tracks_are_one_history.Goals as goal

pub returns : goal.returns
returns c = attested_make_history
