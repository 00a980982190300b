use Rattle.fc_laws.proofs.front.Room.{over_draws_none, over_emits_so}
use Rattle.fc_laws.proofs.front.Unchanged.{over_left}
use Rattle.fc_laws.proofs.policy_laws.requests_above_a_share_change_nothing.Goals as goal

pub returns-clause-left : goal.returns-clause-left
returns-clause-left c = λ r s m w. over_left r.event r.emitted s m w

pub returns-clause-ids : goal.returns-clause-ids
returns-clause-ids c = over_draws_none

pub returns-clause-emitted : goal.returns-clause-emitted
returns-clause-emitted c = over_emits_so
