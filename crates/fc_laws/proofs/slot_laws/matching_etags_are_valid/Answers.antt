use Rattle.fc_laws.proofs.words.Words.{match_is_valid}
use Rattle.fc_laws.proofs.slot_laws.matching_etags_are_valid.Goals as goal

pub returns : goal.returns
returns c = match_is_valid
