use Rattle.fc_jobs.proofs.Moves.{hires}
use Rattle.fc_jobs.proofs.ends.Sent.hire.Goals as goal

pub another-pass-requires-clause-rule : goal.another-pass-requires-clause-rule
another-pass-requires-clause-rule g c = hires _ _
