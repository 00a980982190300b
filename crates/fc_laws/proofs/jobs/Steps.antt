-- The effect of one event on each job.
use Rattle.std.proofs.Common.{◌≡◌, ℕ, zero, suc, ◌<◌, ◌≤◌, ◌-◌, List, [], ◌∷◌, ◌++◌, length, map, Option, Some, None, refl, sym, ap, ◌∙◌, subst, ⊎_elim, arith, max, length-append, length-set}
use Rattle.std.proofs.lemmas.Bool.{cases_eq, cases_lt}
use Rattle.std.specs.Option.{option_to_list}
use Rattle.std.proofs.lemmas.List.{append-nil, get_or_past, get_or_append_left, get_or-set_same, get_or-set_other}
use Rattle.std.proofs.Math.Seq.{get_or-append_right}
use Rattle.fc_ticket.specs.declared.job.Job.{Job}
use Rattle.fc_registry.specs.Slots.{Slot}
use Rattle.fc_core.specs.declared.event.Event.{Event}
use Rattle.fc_core.specs.declared.event.Event.TheVariants.{Deliver, Due, Fire, Lose}
use Rattle.fc_core.specs.Stage.{Gone}
use Rattle.fc_core.specs.declared.stage.Task.{Task}
use Rattle.fc_core.specs.History.{AsksTurn, around, due_in, Entry, Seen, and_then, front_at, no_task, received_at, inputs, slot_at, task_at, tasks_brought, tasks_moved, turn_at, turns_by}
use Rattle.fc_front.specs.Receiving.{brought, next_opening}
use Rattle.fc_core.specs.Stages.{new_task}
use Rattle.fc_front.specs.Timers.{timer_job}
use Rattle.fc_core.specs.Transitions.{Around, task_moved, names, transition, inputs_at}

-- the task with a number after an event: the event changes it, it is unchanged, or it is new.
pub data Becomes (o : Option ℕ) (e : Event) (s : Seen) (k : ℕ) (t : Task) : Type 0 where
  Moves : (named : o ≡ Some k) (is : t ≡ task_moved (task_at s.tasks k) (transition e (inputs s k))) → Becomes o e s k t
  Stays : (other : o ≡ Some k → ⊥) (is : t ≡ task_at s.tasks k) → Becomes o e s k t
  Comes : (new : length s.tasks ≤ k) (job : Job) (is : t ≡ new_task job) → Becomes o e s k t

-- a job that has ended stays ended, whatever event names it.
pub gone_stays : (e : Event) (job : Job) (slot : Slot) (ws : Around) → (transition e (record { job = job; slot = slot; around = ws; stage = Gone })).stage ≡ Gone
gone_stays (Lose k) job slot ws = refl
gone_stays other job slot ws = refl

moved_gone : (e : Event) (s : Seen) (k : ℕ) → task_at s.tasks k ≡ no_task → task_moved (task_at s.tasks k) (transition e (inputs s k)) ≡ no_task
moved_gone e s k is = ap (λ (t : Task). task_moved t (transition e (inputs_at t (slot_at s t.job.origin.slot) (around s t.job.origin.slot)))) is ∙ ap (λ x. record { job = no_task.job; stage = x }) (gone_stays e no_task.job (slot_at s no_task.job.origin.slot) (around s no_task.job.origin.slot))

module _ (e : Event) (s : Seen) where
  written : (j k : ℕ) → k < length s.tasks → Becomes (Some j) e s k (task_at (tasks_moved (Some j) e s) k)
  written j k lt = ⊎_elim
      (λ (is : k ≡ j). subst (λ (i : ℕ). i < length s.tasks → Becomes (Some j) e s i (task_at (tasks_moved (Some j) e s) i)) (sym is) (λ below. Moves refl (get_or-set_same s.tasks j (task_moved (task_at s.tasks j) (transition e (inputs s j))) no_task below)) lt)
      (λ (ne : k ≡ j → ⊥). Stays (λ is. ne (sym (cc is))) (get_or-set_other s.tasks j k (task_moved (task_at s.tasks j) (transition e (inputs s j))) no_task ne))
      (cases_eq k j)

  named_or_not : (o : Option ℕ) (k : ℕ) → k < length s.tasks → Becomes o e s k (task_at (tasks_moved o e s) k)
  named_or_not None k lt = Stays (λ is. absurd (cc is)) refl
  named_or_not (Some j) k lt = written j k lt

  pub moved_length : (o : Option ℕ) → length (tasks_moved o e s) ≡ length s.tasks
  moved_length None = refl
  moved_length (Some k) = length-set s.tasks k (task_moved (task_at s.tasks k) (transition e (inputs s k)))

  -- at a number past the end of the tasks, an event leaves `no_task`.
  past : (o : Option ℕ) (k : ℕ) (t : Task) → length s.tasks ≤ k → t ≡ no_task → Becomes o e s k t
  past None k t le is = Stays (λ named. absurd (cc named)) (is ∙ sym (get_or_past s.tasks k no_task le))
  past (Some j) k t le is = ⊎_elim
      (λ (same : j ≡ k). Moves (ap Some same) (is ∙ sym (moved_gone e s k (get_or_past s.tasks k no_task le))))
      (λ (ne : j ≡ k → ⊥). Stays (λ named. ne (cc named)) (is ∙ sym (get_or_past s.tasks k no_task le)))
      (cases_eq j k)

  new : (jobs : List Job) (o : Option ℕ) (k i : ℕ) → length s.tasks ≤ k → Becomes o e s k (task_at (map new_task jobs) i)
  new [] o k i le = past o k no_task le refl
  new (j ∷ js) o k zero le = Comes le j refl
  new (j ∷ js) o k (suc i) le = new js o k i le

  brings : (d : Event) (o : Option ℕ) (k i : ℕ) → length s.tasks ≤ k → Becomes o e s k (task_at (tasks_brought d s) i)
  brings (Deliver now to b) o k i le = new (brought (received_at s now to b.now) (next_opening (front_at s now)) to) o k i le
  brings (Due shard now) o k i le =
      let at = max (s.shard_time shard) now in
      subst (λ (ts : List Task). Becomes o e s k (task_at ts i)) (sym (append-nil (turns_by (AsksTurn shard now) s))) (new (option_to_list (turn_at (due_in s shard at) s shard at)) o k i le)
  brings (Fire slot now) o k i le = new (timer_job slot ∷ []) o k i le
  brings other o k i le = past o k no_task le refl

  becomes_by : (o : Option ℕ) (k : ℕ) → Becomes o e s k (task_at (tasks_moved o e s ++ tasks_brought e s) k)
  becomes_by o k = ⊎_elim
      (λ (lt : k < length s.tasks). subst (Becomes o e s k) (sym (get_or_append_left (tasks_moved o e s) (tasks_brought e s) no_task k (subst (λ (n : ℕ). k < n) (sym (moved_length o)) lt))) (named_or_not o k lt))
      (λ (le : length s.tasks ≤ k). subst (Becomes o e s k) (sym (get_or-append_right (tasks_moved o e s) (tasks_brought e s) k no_task (subst (λ (n : ℕ). n ≤ k) (sym (moved_length o)) le))) (brings e o k (k - length (tasks_moved o e s)) le))
      (cases_lt k (length s.tasks))

pub becomes : (r : Entry) (s : Seen) (k : ℕ) → Becomes (names r.event) r.event s k (task_at (and_then r s).tasks k)
becomes r s k = becomes_by r.event s (names r.event) k

-- the number of jobs never decreases.
pub tasks_grow : (r : Entry) (s : Seen) → length s.tasks ≤ length (and_then r s).tasks
tasks_grow r s = omega (arith, length-append (tasks_moved (names r.event) r.event s) (tasks_brought r.event s), moved_length r.event s (names r.event))
