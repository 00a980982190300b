use Rattle.fc_calls.proofs.Planned.{removal_slots}
use Rattle.fc_calls.proofs.calls.RemoveChange.plan.Goals as goal

pub returns-clause-slots : goal.returns-clause-slots
returns-clause-slots c = λ answer room after does. removal_slots c.args.self.now.job.now c.args.shard.now answer after does
