use Rattle.std.proofs.Common.{refl}
use Rattle.std.specs.Fmt.{digits}
use Rattle.fc_record.proofs.laws.reports_are_written_so.Goals as goal

pub returns : goal.returns
unfolding digits
returns c = refl
