use Rattle.std.proofs.Common.{◌≡◌}
use Rattle.std.specs.Prelude.{replicate}
use Rattle.fc_jobs.specs.Ends.{nothing_got}
use Rattle.fc_jobs.proofs.jobs.hire.Given as goal

abbrev pub invariant-loop-worker : goal.invariant-loop-worker
invariant-loop-worker g l = (l.sent ≡ l.fn.sent) × (l.gots.items ≡ replicate l.worker (nothing_got l.fn.sent.channel))
