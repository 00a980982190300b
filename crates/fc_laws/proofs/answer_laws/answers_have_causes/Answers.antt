use Rattle.fc_laws.proofs.jobs.Reasons.{answers_have_causes}
use Rattle.fc_laws.proofs.answer_laws.answers_have_causes.Goals as goal

pub returns : goal.returns
returns c = answers_have_causes
