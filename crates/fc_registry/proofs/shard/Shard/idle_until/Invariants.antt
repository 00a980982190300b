use Rattle.std.proofs.Common.{ℕ, ◌<◌}
use Rattle.fc_observe.specs.Quiet.{AreIdleUntil}
use Rattle.fc_registry.specs.Watches.{noticed_at, watch_at}
use Rattle.fc_registry.proofs.shard.Shard.idle_until.Given as goal

-- the observers at the places so far are idle until the least time so far.
abbrev pub invariant-loop-place : goal.invariant-loop-place
invariant-loop-place l = (k : ℕ) → k < l.place → AreIdleUntil l.until (noticed_at l.self k) (watch_at l.self k).held
