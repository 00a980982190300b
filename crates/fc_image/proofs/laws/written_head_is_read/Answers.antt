use Rattle.fc_image.proofs.Written.{faultless_written}
use Rattle.fc_image.proofs.laws.written_head_is_read.Goals as goal

pub returns-clause-faultless : goal.returns-clause-faultless
returns-clause-faultless c = faultless_written
