use Rattle.fc_laws.proofs.turns.Notices.{empty_notifies, found_notifies}
use Rattle.fc_laws.proofs.jobs.Snapshots.{told_newest}
use Rattle.fc_laws.proofs.turns.TurnBlocks.{content_told}
use Rattle.fc_laws.proofs.turn_laws.notifications_are_of_the_last_snapshot.Goals as goal

pub returns-clause-newest : goal.returns-clause-newest
returns-clause-newest c = told_newest

pub returns-clause-found : goal.returns-clause-found
returns-clause-found c = found_notifies

pub returns-clause-empty : goal.returns-clause-empty
returns-clause-empty c = empty_notifies

pub returns-clause-content : goal.returns-clause-content
returns-clause-content c = content_told
