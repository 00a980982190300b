-- The snapshot of a lease's job at its shard is the transition of the job.
use Rattle.std.proofs.Common.{◌≡◌, ℕ, ◌/◌, List, Bool, true, false, Option, Some, None, refl, sym, ap, ◌∙◌}
use Rattle.fc_observe.specs.declared.entry.Turn.{Turn}
use Rattle.fc_observe.specs.Calls.{ObserverCall}
use Rattle.fc_observe.specs.Observers.{ObserverList}
use Rattle.fc_ticket.specs.declared.job.Job.{Job}
use Rattle.fc_ticket.specs.Taken.{Taken}
use Rattle.fc_registry.specs.Calls.{TakesAt, after_snapshot, is_out_at, snapshot_at, snapshot_by, snapshot_calls, snapshot_calls_by, turn_calls, turn_of, turn_snapshot, readings_if}
use Rattle.fc_ticket.specs.Tickets.{Present}
use Rattle.fc_registry.specs.Slots.{Shard, Slot, slot_in}
use Rattle.fc_registry.specs.Watches.{watch_at, with_calls}
use Rattle.fc_core.specs.declared.event.Event.TheVariants.{Take}
use Rattle.fc_core.specs.Stage.{Stage}
use Rattle.fc_core.specs.Stage.{ToTell}
use Rattle.fc_core.specs.declared.stage.Task.{Task}
use Rattle.fc_core.specs.TurnStage as turns
use Rattle.fc_core.specs.Fits.{FitsStage}
use Rattle.fc_core.specs.Stages.{had_memory, turn_to_take, turn_took, without_memory}
use Rattle.fc_core.specs.Transitions.{Common, Inputs, around_of, transition, inputs_of, shard_after, task_moved}
use Rattle.fc_core.proofs.Rejections.{same_slot}
use Rattle.std.proofs.Common.{subst}

-- the result of a lease's snapshot determines whether memory could be allocated.
had : (out memory : Bool) (readings : List ℕ) (job : Job) (serial : ℕ) (p : Option Present)
    → let x = turn_snapshot out (readings_if memory readings) job serial p in x ≡ turn_snapshot out (readings_if (had_memory x) readings) job serial p
had false memory readings job serial p = refl
had true memory readings job serial None = refl
had true true readings job serial (Some p) = refl
had true false readings job serial (Some p) = refl

without : (out : Bool) (kept : Option (List ℕ)) (job : Job) (serial : ℕ) (p : Option Present) → without_memory (turn_snapshot out kept job serial p) ≡ turn_snapshot out None job serial p
without false kept job serial p = refl
without true kept job serial None = refl
without true (Some readings) job serial (Some p) = refl
without true None job serial (Some p) = refl

is_to_take : (st : Stage) (turn : Turn) → turn_to_take st ≡ Some turn → st ≡ ToTell turn turns.ToTake
is_to_take (ToTell own turns.ToTake) turn e = let same : own ≡ turn = cc e in ap (λ (t : Turn). ToTell t turns.ToTake) same
is_to_take other turn e = absurd (cc e)

module _ (shard : Shard) (task : Task) (turn : Turn) (to_take : turn_to_take task.stage ≡ Some turn) (fits : FitsStage task.job (slot_in shard task.job.origin.slot) task.stage) where
  is : task.stage ≡ ToTell turn turns.ToTake
  is = is_to_take task.stage turn to_take

  abbrev n : ℕ
  n = task.job.origin.slot

  abbrev slot : Slot
  slot = slot_in shard n

  abbrev w : ObserverList
  w = watch_at shard (n / 8)

  abbrev out : Bool
  out = is_out_at turn shard.now w

  told : FitsStage task.job slot (ToTell turn turns.ToTake)
  told = subst (FitsStage task.job slot) is fits

  turn_is : turn_of task.job turn.number ≡ turn
  turn_is = λ i. record { slot = sym told.0 i; number = turn.number }

  snapshot_is : (kept : Option (List ℕ)) → snapshot_at kept task.job slot shard.now w ≡ turn_snapshot out kept task.job slot.serial slot.present
  snapshot_is kept = ap (λ (o : Option ℕ). snapshot_by o kept task.job slot shard.now w) told.1 ∙ ap (λ (t : Turn). turn_snapshot (is_out_at t shard.now w) kept task.job slot.serial slot.present) turn_is

  calls_are : snapshot_calls task.job slot shard.now w ≡ turn_calls turn shard.now slot.present w
  calls_are = ap (λ (o : Option ℕ). snapshot_calls_by o task.job slot shard.now w) told.1 ∙ ap (λ (t : Turn). turn_calls t shard.now slot.present w) turn_is

  abbrev here : Common → Stage → Inputs
  here common st = record { job = task.job; slot = slot; around = around_of shard common n; stage = st }

  transition_is : (k : ℕ) (memory : Bool) (readings : List ℕ) (common : Common) → task_moved task (transition (Take k memory readings) (here common (ToTell turn turns.ToTake))) ≡ task_moved task (transition (Take k memory readings) (inputs_of shard common task))
  transition_is k memory readings common = ap (λ (st : Stage). task_moved task (transition (Take k memory readings) (here common st))) (sym is)

  pub turn_takes : (readings : List ℕ) (x : Taken) → TakesAt task.job readings shard x → (k : ℕ) (common : Common) → record { job = task.job; stage = turn_took turn x } ≡ task_moved task (transition (Take k (had_memory x) readings) (inputs_of shard common task))
  turn_takes readings x takes k common =
      let taken : x ≡ turn_snapshot out (readings_if takes.0 readings) task.job slot.serial slot.present = takes.1 ∙ snapshot_is (readings_if takes.0 readings) in
      let settled : x ≡ turn_snapshot out (readings_if (had_memory x) readings) task.job slot.serial slot.present = taken ∙ (had out takes.0 readings task.job slot.serial slot.present ∙ ap (λ (y : Taken). turn_snapshot out (readings_if (had_memory y) readings) task.job slot.serial slot.present) (sym taken)) in
      ap (λ (y : Taken). record { job = task.job; stage = turn_took turn y }) settled ∙ transition_is k (had_memory x) readings common

  pub turn_takes_without : (readings : List ℕ) (x : Taken) → TakesAt task.job readings shard x → (k : ℕ) (others : List ℕ) (common : Common) → record { job = task.job; stage = turn_took turn (without_memory x) } ≡ task_moved task (transition (Take k false others) (inputs_of shard common task))
  turn_takes_without readings x takes k others common =
      let taken : x ≡ turn_snapshot out (readings_if takes.0 readings) task.job slot.serial slot.present = takes.1 ∙ snapshot_is (readings_if takes.0 readings) in
      ap (λ (y : Taken). record { job = task.job; stage = turn_took turn y }) (ap without_memory taken ∙ without out (readings_if takes.0 readings) task.job slot.serial slot.present) ∙ transition_is k false others common

  pub turn_calls_at : (new : Shard) → new ≡ after_snapshot task.job shard → (k : ℕ) (memory : Bool) (readings : List ℕ) (common : Common) → new ≡ shard_after (transition (Take k memory readings) (inputs_of shard common task)) task shard
  turn_calls_at new after k memory readings common =
      after
      ∙ (ap (λ (cs : List ObserverCall). with_calls cs n shard) calls_are
      ∙ (ap (with_calls (turn_calls turn shard.now slot.present w) n) (sym (same_slot shard n))
      ∙ ap (λ (st : Stage). shard_after (transition (Take k memory readings) (here common st)) task shard) (sym is)))
