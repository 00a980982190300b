use Rattle.std.proofs.Common.{◌≡◌}
use Rattle.pooltests.proofs.job_tests.send_all.Given as goal

abbrev pub invariant-loop-number : goal.invariant-loop-number
invariant-loop-number g l = l.sent.channel ≡ l.jobs
