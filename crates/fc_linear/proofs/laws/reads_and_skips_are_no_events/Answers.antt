use Rattle.std.proofs.Common.{refl}
use Rattle.fc_linear.proofs.laws.reads_and_skips_are_no_events.Goals as goal

pub returns-clause-cost : goal.returns-clause-cost
returns-clause-cost c = λ k cost h log. refl

pub returns-clause-skip : goal.returns-clause-skip
returns-clause-skip c = λ k shard now h log. refl

pub returns-clause-readings : goal.returns-clause-readings
returns-clause-readings c = λ k readings h log. refl

pub returns-clause-part : goal.returns-clause-part
returns-clause-part c = λ cost shard now. (refl, refl)
