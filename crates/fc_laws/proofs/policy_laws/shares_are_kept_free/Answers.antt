use Rattle.fc_laws.proofs.front.Free.{kept_free}
use Rattle.fc_laws.proofs.policy_laws.shares_are_kept_free.Goals as goal

pub returns : goal.returns
returns c = kept_free
