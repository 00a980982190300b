use Rattle.fc_laws.proofs.jobs.Ways.{answers_kept, takes_unmatched}
use Rattle.fc_laws.proofs.way_laws.jobs_go_on_with_their_next_call.Goals as goal

pub returns-clause-unmatched : goal.returns-clause-unmatched
returns-clause-unmatched c = takes_unmatched

pub returns-clause-keeps : goal.returns-clause-keeps
returns-clause-keeps c = answers_kept
