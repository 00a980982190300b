-- The work after a datagram or a tick. Shards retransmit notifications that have timed out, and
-- notify observers.
use Rattle.std.specs.Prelude.{◌≡◌, ◌<◌, ◌≤◌, ◌⊎◌, if◌then◌else◌, ⊤, ℕ, zero, suc, Bool, true, false, List, [], ◌∷◌, ◌++◌, length, min, Option, None}
use Rattle.std.specs.List.{list_any}
use Rattle.std.specs.Option.{option_to_list}
use Rattle.coap_msg.specs.declared.types.Emission.{Emission}
use Rattle.fc_core.specs.Legal.{resent}
use Rattle.fc_observe.specs.declared.observers.Ticked.{Ticked}
use Rattle.fc_observe.specs.declared.observers.Ticked.TheVariants.{Quiet}
use Rattle.fc_server.specs.Notified.{Notified, Nobody, Starved, notification_in}
use Rattle.fc_server.specs.Ingresses.{IngressCalls}
use Rattle.fc_server.specs.declared.flush.Flushing.{Flushing}

-- a step: a shard is ticked, with this result; an idle shard is advanced; or a shard is asked for a
-- lease, with this result.
pub data FlushingStep : Type 0 where
  Resent : (shard : ℕ) (ticked : Ticked) → FlushingStep
  Passed : (shard : ℕ) → FlushingStep
  Asked : (shard : ℕ) (told : Notified) → FlushingStep

abbrev pub sent_in_step : FlushingStep → Option Emission
sent_in_step (Resent shard ticked) = resent ticked
sent_in_step (Passed shard) = None
sent_in_step (Asked shard told) = notification_in told

-- the datagrams that the steps sent, the oldest first. The list of steps begins with the newest.
abbrev pub sent_in_steps : List FlushingStep → List Emission
sent_in_steps [] = []
sent_in_steps (step ∷ steps) = sent_in_steps steps ++ option_to_list (sent_in_step step)

-- ---- when the work ends

-- a finding: no notification of a shard has timed out any more, or no observer of the shard has a
-- pending notification any more.
pub data Finding : Type 0 where
  NothingOverdue : (shard : ℕ) → Finding
  NobodyDue : (shard : ℕ) → Finding

-- the finding that a step looks for first. A step that advances an idle shard makes the next
-- finding too.
abbrev pub sought_in_step : FlushingStep → Finding
sought_in_step (Resent shard ticked) = NothingOverdue shard
sought_in_step (Passed shard) = NothingOverdue shard
sought_in_step (Asked shard told) = NobodyDue shard

abbrev pub found_in_step : FlushingStep → List Finding
found_in_step (Resent shard Quiet) = NothingOverdue shard ∷ []
found_in_step (Passed shard) = NothingOverdue shard ∷ NobodyDue shard ∷ []
found_in_step (Asked shard Nobody) = NobodyDue shard ∷ []
found_in_step other = []

-- the findings of the steps, the oldest first. The list of steps begins with the newest.
abbrev pub found_in_steps : List FlushingStep → List Finding
found_in_steps [] = []
found_in_steps (step ∷ steps) = found_in_steps steps ++ found_in_step step

-- all findings at the shards below n, in their order.
abbrev pub found_below : ℕ → List Finding
found_below zero = []
found_below (suc n) = found_below n ++ (NothingOverdue n ∷ NobodyDue n ∷ [])

-- whether no message ID was available for the lease of a step.
abbrev pub is_starved : FlushingStep → Bool
is_starved (Asked shard Starved) = true
is_starved other = false

-- the greatest number of steps at one time.
abbrev pub most_steps : ℕ
most_steps = 8192

-- each step looks for the finding after those before it, and no step follows a starved step.
abbrev pub AreStepsInOrder : List FlushingStep → Type 0
AreStepsInOrder [] = Unit {0}
AreStepsInOrder (step ∷ steps) =
    AreStepsInOrder steps × (list_any is_starved steps ≡ false) × ((rest : List Finding) × (found_in_steps steps ++ (sought_in_step step ∷ rest) ≡ found_below 8))

-- the steps are in order, and they ended for one of three reasons. No shard has a notification that
-- has timed out, or an observer with a pending one. Or no message ID was available, or the greatest
-- number of steps was taken.
abbrev pub AreFlushed : List FlushingStep → Type 0
AreFlushed steps = AreStepsInOrder steps × ((found_in_steps steps ≡ found_below 8) ⊎ ((list_any is_starved steps ≡ true) ⊎ (most_steps ≤ length steps)))

-- ---- positions: at a shard, a position is first at notifications that have timed out, then at
-- observers; shard 8 is the end

abbrev pub IsPlace : Flushing → Type 0
IsPlace s = (s.shard ≤ 8) × (s.shard ≡ 8 → s.notifies ≡ false)

-- the finding that a position looks for.
abbrev pub sought_at : Flushing → Finding
sought_at s = if s.notifies then NobodyDue s.shard else NothingOverdue s.shard

-- the findings before a position.
abbrev pub found_at : Flushing → List Finding
found_at s = found_below s.shard ++ (if s.notifies then NothingOverdue s.shard ∷ [] else [])

-- a step at a shard leads from one position to another. A starved step leads to the end.
pub record Moves (from : Flushing) (step : FlushingStep) (to : Flushing) : Type 0 where
  pub within : from.shard < 8
  pub seeks : sought_in_step step ≡ sought_at from
  pub place : IsPlace to
  pub reaches : ((is_starved step ≡ false) × (found_at from ++ found_in_step step ≡ found_at to)) ⊎ ((is_starved step ≡ true) × (to.shard ≡ 8))

-- the steps made all findings before this position. Or the last step was starved, and the position
-- is the end.
abbrev pub HasReached : List FlushingStep → Flushing → Type 0
HasReached steps at = ((list_any is_starved steps ≡ false) × (found_in_steps steps ≡ found_at at)) ⊎ ((list_any is_starved steps ≡ true) × (at.shard ≡ 8))

-- ---- steps of a server at one time, by the effects of its calls
module _ {S : Type 0} (calls : IngressCalls S) where
  -- the effect of a step at a shard, 0 to 7, on the server.
  abbrev pub IsStepBy : ℕ → FlushingStep → S → S → Type 0
  IsStepBy now (Resent shard ticked) old new = (shard < 8) × calls.resends shard now old new ticked
  IsStepBy now (Passed shard) old new = (shard < 8) × calls.passes_over shard now old new
  IsStepBy now (Asked shard told) old new = (shard < 8) × calls.notifies shard now old new told

  -- the effect of successive steps, the newest first.
  abbrev pub AreStepsBy : ℕ → List FlushingStep → S → S → Type 0
  AreStepsBy now [] old new = new ≡ old
  AreStepsBy now (step ∷ steps) old new = (mid : S) × IsStepBy now step mid new × AreStepsBy now steps old mid

  -- these steps led to this position.
  pub record AreStepsTo (now : ℕ) (steps : List FlushingStep) (old new : S) (at : Flushing) : Type 0 where
    pub taken : AreStepsBy now steps old new
    pub place : IsPlace at
    pub in_order : AreStepsInOrder steps
    pub reached : HasReached steps at

-- ---- how long each shard is idle

-- these are times until which the first shards are idle. The list begins with the last shard's
-- time.
abbrev pub AreTold : (ℕ → ℕ → Type 0) → List ℕ → Type 0
AreTold StaysIdle [] = ⊤
AreTold StaysIdle (until ∷ before) = StaysIdle (length before) until × AreTold StaysIdle before

-- the earliest of these times; 2^64 - 1 ms if there is none.
abbrev pub earliest : List ℕ → ℕ
earliest [] = 18446744073709551615
earliest (until ∷ before) = min (earliest before) until

-- each of the eight shards returned a time until which it is idle, and this is the earliest one.
abbrev pub AreIdleUntil : (ℕ → ℕ → Type 0) → ℕ → Type 0
AreIdleUntil StaysIdle time = (told : List ℕ) × AreTold StaysIdle told × (length told ≡ 8) × (time ≡ earliest told)
