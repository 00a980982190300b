use Rattle.std.proofs.Common.{◌≡◌, ◌-◌}
use Rattle.std.specs.Prelude.{replicate}
use Rattle.fc_locked.specs.Counts.{no_tallies}
use Rattle.fc_locked.proofs.unassigned.Unassigned.split_each.Given as goal

abbrev pub invariant-loop-worker : goal.invariant-loop-worker
invariant-loop-worker g l = (l.self ≡ record l.fn.self { parts = l.fn.self.parts - l.worker }) × (l.each.items ≡ replicate l.worker no_tallies)
