use Rattle.std.proofs.Common.{◌≡◌, ◌++◌, ◌-◌, ◌≤◌, ℕ, List, length}
use Rattle.fc_workers.specs.Steps.{AreSeen}
use Rattle.fc_workers.proofs.context.Context.list.Given as goal

abbrev pub invariant-slots : goal.invariant-slots
invariant-slots g l = (length l.words.items ≤ 64) ×
    ((more : List ℕ) × (l.words.items ≡ l.initial.words.items ++ more) × AreSeen g.B.Bench.logged (length l.initial.words.items) more l.initial.log l.log)

abbrev pub decreases-slots : goal.decreases-slots
decreases-slots g l = 64 - length l.words.items
