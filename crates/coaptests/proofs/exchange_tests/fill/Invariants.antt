use Rattle.std.proofs.Common.{◌≡◌}
use Rattle.coaptests.proofs.exchange_tests.fill.Given as goal

abbrev pub invariant-loop-number : goal.invariant-loop-number
invariant-loop-number g l = l.exchanges.now ≡ 0
