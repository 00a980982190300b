use Rattle.std.proofs.Common.{◌≡◌}
use Rattle.fc_registry.specs.Shards.{empty_shards}
use Rattle.fc_registry.proofs.shards.make_shards.Given as goal

abbrev pub invariant-loop-index : goal.invariant-loop-index
invariant-loop-index l = l.shards.items ≡ empty_shards l.first_serial l.confirm_after l.index
