use Rattle.std.proofs.Common.{ap}
use Rattle.fc_registry.specs.Slots.{Shard}
use Rattle.fc_calls.proofs.Confirming.{watches_confirm}
use Rattle.fc_calls.proofs.calls.RemoveShardCall.call.Goals as goal

pub returns-clause-confirms : goal.returns-clause-confirms
returns-clause-confirms c = watches_confirm c.args.shard.now c.remove.new.self (ap (λ (s : Shard). s.watches) c.remove.ensures.slots)
