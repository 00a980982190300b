use Rattle.fc_laws.proofs.front.Shares.{within_exchanges, within_share}
use Rattle.fc_laws.proofs.policy_laws.exchanges_are_within_limits.Goals as goal

pub returns-clause-all : goal.returns-clause-all
returns-clause-all c = within_exchanges

pub returns-clause-shares : goal.returns-clause-shares
returns-clause-shares c = within_share
