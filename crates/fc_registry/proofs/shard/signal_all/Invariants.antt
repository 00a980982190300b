use Rattle.std.proofs.Common.{◌≡◌, ◌++◌, drop, take, map}
use Rattle.fc_observe.specs.Calls.{observers_after}
use Rattle.fc_registry.specs.Watches.{signal_call}
use Rattle.fc_registry.proofs.shard.signal_all.Given as goal

abbrev pub invariant-loop-watch : goal.invariant-loop-watch
invariant-loop-watch l = l.watches ≡ map (observers_after (signal_call l.reset l.endpoint l.id)) (take l.watch-index l.initial.watches) ++ drop l.watch-index l.initial.watches
