use Rattle.fc_laws.proofs.front.Managed.{managed}
use Rattle.fc_laws.proofs.policy_laws.managers_alone_change_programs.Goals as goal

pub returns : goal.returns
returns c = managed
