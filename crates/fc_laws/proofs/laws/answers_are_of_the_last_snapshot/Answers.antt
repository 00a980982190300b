use Rattle.fc_laws.proofs.jobs.Snapshots.{answers_newest}
use Rattle.fc_laws.proofs.laws.answers_are_of_the_last_snapshot.Goals as goal

pub returns : goal.returns
returns c = answers_newest
