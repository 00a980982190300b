-- Invariants of the summary of a history, for all events.
use Rattle.std.specs.Prelude.{ℕ, List, [], ◌∷◌}
use Rattle.std.specs.List.{All}
use Rattle.fc_registry.specs.Changes.{Change, Installed, Committed, Removed}
use Rattle.fc_registry.specs.Record.{IsChain}
use Rattle.fc_core.specs.Fits.{FitsSlot, FitsStage, IsSafe}
use Rattle.fc_core.specs.History.{Seen, first_slot, job, slot_at, stage, watch}
use Rattle.fc_front.specs.Receiving.{JobWithin, RequestWithin}

-- the commits of each slot are a chain. Each job is within its limits and fits its slot. The
-- requests of the observers are within their limits.
pub record IsSoundlySeen (s : Seen) : Type 0 where
  pub chain : (n : ℕ) → IsChain (first_slot s n) (s.changes n)
  pub within : (k : ℕ) → JobWithin (job s k)
  pub stages : (k : ℕ) → FitsStage (job s k) (slot_at s (job s k).origin.slot) (stage s k)
  pub watched : (n : ℕ) → All (λ o. RequestWithin o.request) (watch s n).held

-- the program in each slot is safe to run.
pub record IsSafelySeen (s : Seen) : Type 0 where
  pub slots : (n : ℕ) → FitsSlot (slot_at s n).present

-- each program that these changes install is safe.
abbrev pub AllSafe : List Change → Type 0
AllSafe [] = Unit {0}
AllSafe (Installed p initial ∷ cs) = IsSafe p × AllSafe cs
AllSafe (Committed c ∷ cs) = AllSafe cs
AllSafe (Removed ∷ cs) = AllSafe cs
