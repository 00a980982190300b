use Rattle.std.proofs.Common.{refl}
use Rattle.std.specs.Fmt.{digits}
use Rattle.fc_record.proofs.laws.requests_are_written_so.Goals as goal

pub returns-clause-upload : goal.returns-clause-upload
unfolding digits
returns-clause-upload c = λ image. refl

pub returns-clause-refused : goal.returns-clause-refused
unfolding digits
returns-clause-refused c = λ image. refl

pub returns-clause-removal : goal.returns-clause-removal
unfolding digits
returns-clause-removal c = refl

pub returns-clause-unanswered : goal.returns-clause-unanswered
unfolding digits
returns-clause-unanswered c = refl
