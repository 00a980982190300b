use Rattle.std.proofs.Common.{◌≡◌}
use Rattle.fc_registry.specs.Watches.{new_watches}
use Rattle.fc_registry.proofs.shard.make_watches.Given as goal

abbrev pub invariant-loop-place : goal.invariant-loop-place
invariant-loop-place l = l.watches.items ≡ new_watches l.index l.confirm_after l.place
