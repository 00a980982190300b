use Rattle.std.proofs.Common.{◌≡◌, ◌++◌, drop, take}
use Rattle.fc_observe.specs.Entries.{acknowledged, has_last_id}
use Rattle.fc_observe.specs.Observers.{at_each}
use Rattle.fc_observe.proofs.observers.acknowledge_each.Given as goal

abbrev pub invariant-loop-entry : goal.invariant-loop-entry
invariant-loop-entry l = l.held ≡ at_each (has_last_id l.endpoint l.id) acknowledged (take l.entry-index l.initial.held) ++ drop l.entry-index l.initial.held
