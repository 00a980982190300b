use Rattle.std.proofs.Common.{◌≡◌, ◌-◌, List, []}
use Rattle.fc_server.specs.Flushing.{AreStepsTo, FlushingStep, sent_in_steps}
use Rattle.fc_server.proofs.FlushingSteps.{before_shard}
use Rattle.fc_server.proofs.flush.Flushing.begin.Given as goal

-- the steps so far led to this shard, and sent nothing.
abbrev pub invariant-idle : goal.invariant-idle
invariant-idle g l = (steps : List FlushingStep) × AreStepsTo g.N.Ingress.calls l.now steps l.fn.ingress l.ingress (before_shard l.shard) × (sent_in_steps steps ≡ [])

abbrev pub decreases-idle : goal.decreases-idle
decreases-idle g l = 8 - l.shard
