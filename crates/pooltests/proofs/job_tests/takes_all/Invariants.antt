use Rattle.std.proofs.Common.{◌≡◌}
use Rattle.pooltests.proofs.job_tests.takes_all.Given as goal

abbrev pub invariant-loop-number : goal.invariant-loop-number
invariant-loop-number g l = l.got.channel ≡ l.jobs
