-- The jobs that an event makes, and a property of each of these jobs.
use Rattle.std.proofs.Common.{◌≡◌, ℕ, zero, suc, ◌+◌, ◌*◌, ◌-◌, ◌<◌, ◌≤◌, List, [], ◌∷◌, ◌++◌, length, map, Option, Some, None, refl, sym, ap, ◌∙◌, subst, arith, max, get_or, length-append}
use Rattle.std.specs.Option.{option_map, option_to_list}
use Rattle.std.proofs.Math.Seq.{get_or-append_right}
use Rattle.coap_msg.specs.declared.types.Endpoint.{Endpoint}
use Rattle.fc_observe.specs.declared.entry.Turn.{Turn}
use Rattle.fc_observe.specs.Calls.{NextDue, observers_after}
use Rattle.fc_observe.specs.Observers.{ObserverList, list_at_time, entry_out, next_turn}
use Rattle.fc_observe.specs.Views.{Interest, interest_of}
use Rattle.fc_registry.specs.Turns.{job_of_turn, turn_job}
use Rattle.fc_ticket.specs.declared.job.Job.{Job}
use Rattle.fc_ticket.specs.declared.job.Opening.{Opening}
use Rattle.fc_core.specs.declared.event.Event.{Event}
use Rattle.fc_core.specs.declared.event.Event.TheVariants.{Deliver, Due, Fire}
use Rattle.fc_core.specs.declared.stage.Task.{Task}
use Rattle.fc_core.specs.History.{Entry, Seen, and_then, due_in, front_at, no_task, received_at, slot_at, task_at, tasks_brought, tasks_moved, turn_at, watch}
use Rattle.fc_core.specs.Laws.{HasCome}
use Rattle.fc_front.specs.Receiving.{Received, Opened, brought, next_opening}
use Rattle.fc_core.specs.Stages.{new_task}
use Rattle.fc_core.specs.Transitions.{names}
use Rattle.fc_core.proofs.Lists.{Each}
use Rattle.fc_laws.specs.ExchangeLaws.{IsOfLease}
use Rattle.fc_laws.proofs.jobs.Steps.{moved_length}

-- ---- the number of jobs

one_turn : (o : Option Job) → length (map new_task (option_to_list o) ++ []) ≤ 1
one_turn None = omega arith
one_turn (Some job) = omega arith

one_job : (x : Received) (o : Opening) (to : Endpoint) → length (map new_task (brought x o to)) ≤ 1
one_job (Opened m asked body) o to = omega arith
one_job other o to = omega arith

pub one_brought : (e : Event) (s : Seen) → length (tasks_brought e s) ≤ 1
one_brought (Deliver now to bytes) s = one_job (received_at s now to bytes.now) (next_opening (front_at s now)) to
one_brought (Due shard now) s = let at = max (s.shard_time shard) now in one_turn (turn_at (due_in s shard at) s shard at)
one_brought (Fire slot now) s = omega arith
one_brought other s = omega arith

pub length_after : (r : Entry) (s : Seen) → length (and_then r s).tasks ≡ length s.tasks + length (tasks_brought r.event s)
length_after r s = length-append (tasks_moved (names r.event) r.event s) (tasks_brought r.event s) ∙ ap (λ (n : ℕ). n + length (tasks_brought r.event s)) (moved_length r.event s (names r.event))

-- ---- a property of each job

each_at : {X : Type 0} (P : X → Type 0) (xs : List X) (i : ℕ) (d : X) → Each P xs → i < length xs → P (get_or xs i d)
each_at P [] i d e lt = absurd (omega arith)
each_at P (x ∷ xs) zero d e lt = e.0
each_at P (x ∷ xs) (suc i) d e lt = each_at P xs i d e.1 (omega arith)

pub each_weaker : {X : Type 0} (P Q : X → Type 0) (xs : List X) → ((x : X) → P x → Q x) → Each P xs → Each Q xs
each_weaker P Q [] f w = tt
each_weaker P Q (x ∷ xs) f w = (f x w.0, each_weaker P Q xs f w.1)

pub tasks_each : (P : Job → Type 0) (js : List Job) → Each P js → Each (λ t. P t.job) (map new_task js)
tasks_each P [] w = tt
tasks_each P (j ∷ js) w = (w.0, tasks_each P js w.1)

module _ (P : Task → Type 0) where
  -- if each job that an event makes has the property, a job with a new number has the property.
  pub new_has : (r : Entry) (s : Seen) (k : ℕ) → length s.tasks ≤ k → HasCome (and_then r s) k → Each P (tasks_brought r.event s) → P (task_at (and_then r s).tasks k)
  new_has r s k le come each =
      let before : length (tasks_moved (names r.event) r.event s) ≡ length s.tasks = moved_length r.event s (names r.event) in
      subst P (sym (get_or-append_right (tasks_moved (names r.event) r.event s) (tasks_brought r.event s) k no_task (omega arith)))
      (each_at P (tasks_brought r.event s) (k - length (tasks_moved (names r.event) r.event s)) no_task each (omega (arith, length_after r s, before, come)))

  module _ (lease : (j : Job) → IsOfLease j → P (new_task j)) where
    granted_has : (n number : ℕ) (o : Option Interest) → Each P (map new_task (option_to_list (option_map (turn_job n number) o)) ++ [])
    granted_has n number None = tt
    granted_has n number (Some o) = (lease (turn_job n number o) (number, refl), tt)

    turn_has : (n : ℕ) (turn : Option Turn) (w : ObserverList) → Each P (map new_task (option_to_list (job_of_turn n turn w)) ++ [])
    turn_has n None w = tt
    turn_has n (Some turn) w = granted_has n turn.number (option_map interest_of (entry_out turn w))

    -- the job of a lease, if one is granted, has the property.
    pub due_has : (s : Seen) (i at : ℕ) (p : Option ℕ) → Each P (map new_task (option_to_list (turn_at p s i at)) ++ [])
    due_has s i at None = tt
    due_has s i at (Some k) =
        let n = 8 * k + i in
        turn_has n (next_turn (slot_at s n).notify_serial (list_at_time at (watch s n))) (observers_after (NextDue at (slot_at s n).notify_serial) (watch s n))
