use Rattle.fc_laws.proofs.turns.Comers.{away_later, come_by_commits}
use Rattle.fc_laws.proofs.observe_laws.observers_come_by_their_commits.Goals as goal

pub returns-clause-comes : goal.returns-clause-comes
returns-clause-comes c = come_by_commits

pub returns-clause-away : goal.returns-clause-away
returns-clause-away c = away_later
