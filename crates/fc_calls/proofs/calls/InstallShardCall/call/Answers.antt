use Rattle.std.proofs.Common.{ap}
use Rattle.fc_registry.specs.Slots.{Shard}
use Rattle.fc_calls.proofs.Confirming.{watches_confirm}
use Rattle.fc_calls.proofs.calls.InstallShardCall.call.Goals as goal

pub returns-clause-confirms : goal.returns-clause-confirms
returns-clause-confirms c = watches_confirm c.args.shard.now c.install.new.self (ap (λ (s : Shard). s.watches) c.install.ensures.slots)
