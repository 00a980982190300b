-- The front's time never decreases.
use Rattle.std.proofs.Common.{ℕ, ◌≤◌, Bool, true, false, arith, max, if◌then◌else◌}
use Rattle.std.specs.Prelude.{is_some}
use Rattle.fc_core.specs.History.{AtFront, Receives, Answers, Draws, Fires, Passes, Rests, Seen, time_by, stage}
use Rattle.fc_core.specs.Stages.{content_at, needs_id}

max_or : (b : Bool) (m n : ℕ) → m ≤ (if b then max m n else m)
max_or true m n = omega arith
max_or false m n = omega arith

pub time_rises : (s : Seen) (x : AtFront) → s.time ≤ time_by x s
time_rises s (Receives now to bytes) = omega arith
time_rises s (Answers k now) = max_or (is_some (content_at (stage s k))) s.time now
time_rises s (Draws k now) = max_or (needs_id (stage s k)) s.time now
time_rises s (Fires slot now) = omega arith
time_rises s (Passes now) = omega arith
time_rises s Rests = omega arith
