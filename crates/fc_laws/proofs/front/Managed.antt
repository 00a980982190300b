-- A job that changes a program belongs to a manager.
use Rattle.std.proofs.Common.{◌≡◌, ℕ, zero, suc, ◌+◌, ◌*◌, ◌<◌, List, [], ◌∷◌, ◌++◌, Bool, true, false, length, map, Option, Some, None, Result, Ok, Err, refl, sym, subst, arith, append-nil}
use Rattle.std.specs.Prelude.{slice_index_or, slice_set}
use Rattle.std.specs.Option.{option_map, option_to_list}
use Rattle.coap_msg.specs.declared.types.Bad.{Bad}
use Rattle.coap_msg.specs.declared.types.Bad.TheVariants as bad
use Rattle.coap_msg.specs.declared.types.Endpoint.{Endpoint}
use Rattle.coap_msg.specs.Reading.{reading_of}
use Rattle.coap_msg.specs.Wire.{Message}
use Rattle.coap_opts.specs.declared.request.Action.{Action}
use Rattle.coap_opts.specs.declared.request.Action.TheVariants as actions
use Rattle.coap_opts.specs.Verdict.{Asked, Verdict, IsAsked, IsRefused, IsSilent, IsReset, IsSignal, IsIgnored, verdict}
use Rattle.coap_dedup.specs.Exchanges.{Look, IsNew, IsBusy, IsAgain, IsSilent as IsAnsweredNon, IsFull as IsTableFull, IsOverShare}
use Rattle.coap_block.specs.Uploads.{Add, Continues, IsWhole, IsIncomplete, IsBadLength, IsTooLarge, IsFull}
use Rattle.fc_observe.specs.declared.entry.Entry.{Entry as ObserverEntry}
use Rattle.fc_observe.specs.declared.entry.Turn.{Turn}
use Rattle.fc_observe.specs.Calls.{NextDue, observers_after}
use Rattle.fc_observe.specs.Observers.{ObserverList, list_at_time, entry_out, next_turn}
use Rattle.fc_ticket.specs.declared.job.Job.{Job}
use Rattle.fc_ticket.specs.declared.job.Opening.{Opening}
use Rattle.fc_observe.specs.Views.{interest_of}
use Rattle.fc_registry.specs.Turns.{job_of_turn, turn_job}
use Rattle.fc_core.specs.declared.event.Event.{Event}
use Rattle.fc_core.specs.declared.event.Event.TheVariants.{Deliver, Due, Fire}
use Rattle.fc_front.specs.declared.policy.Network.{Network}
use Rattle.fc_core.specs.declared.stage.Task.{Task}
use Rattle.fc_front.specs.Exchanges.{FrontState}
use Rattle.fc_core.specs.History.{AsksTurn, BeginsWith, History, Seen, Then, front_at, job, no_task, inputs, seen, slot_at, task_at, tasks_brought, tasks_moved, turn_at, turns_by, watch}
use Rattle.fc_core.specs.Laws.{HasCome}
use Rattle.fc_front.specs.Policies.{is_allowed, is_manager}
use Rattle.fc_front.specs.Receiving.{Received, add_in, ask_by, brought, job_of, look_in, looked, next_opening, received, received_added, received_as, received_if, received_read, request_received}
use Rattle.fc_front.specs.Receiving as x
use Rattle.fc_core.specs.Transitions.{names, transition, task_moved}
use Rattle.fc_core.specs.Stages.{new_task}
use Rattle.fc_core.proofs.Lists.{Each}
use Rattle.fc_laws.specs.PolicyLaws.{IsManaged, asks_for_change}

-- ---- lists

each_append : {X : Type 0} (P : X → Type 0) (xs ys : List X) → Each P xs → Each P ys → Each P (xs ++ ys)
each_append P [] ys w v = v
each_append P (x ∷ xs) ys w v = (w.0, each_append P xs ys w.1 v)

each_set : {X : Type 0} (P : X → Type 0) (xs : List X) (i : ℕ) (a : X) → (i < length xs → P a) → Each P xs → Each P (slice_set xs i a)
each_set P [] i a p w = tt
each_set P (x ∷ xs) zero a p w = (p (omega arith), w.1)
each_set P (x ∷ xs) (suc i) a p w = (w.0, each_set P xs i a (λ lt. p (omega (arith, lt))) w.1)

each_at : {X : Type 0} (P : X → Type 0) (xs : List X) (i : ℕ) (d : X) → Each P xs → i < length xs → P (slice_index_or xs i d)
each_at P [] i d w lt = absurd (omega (arith, lt))
each_at P (x ∷ xs) zero d w lt = w.0
each_at P (x ∷ xs) (suc i) d w lt = each_at P xs i d w.1 (omega (arith, lt))

-- ---- a delivery's job

abbrev AreManaged : List Network → Received → Opening → Endpoint → Type 0
AreManaged managers x o to = Each (IsManaged managers) (brought x o to)

action_managed : (managers : List Network) (to : Endpoint) (a : Action) (r : Asked) (body : List ℕ) → is_allowed managers to a ≡ true → asks_for_change (ask_by a r body) ≡ true → is_manager managers to ≡ true
action_managed managers to (actions.Get n) r body allowed asks = absurd (cc asks)
action_managed managers to (actions.Post n) r body allowed asks = absurd (cc asks)
action_managed managers to (actions.Install n) r body allowed asks = allowed
action_managed managers to (actions.Remove n) r body allowed asks = allowed
action_managed managers to (actions.Describe n) r body allowed asks = absurd (cc asks)
action_managed managers to actions.Discover r body allowed asks = absurd (cc asks)

over_managed : (managers : List Network) (c : Bool) (m : Message) (o : Opening) (to : Endpoint) → AreManaged managers (x.over_share c m) o to
over_managed managers true m o to = tt
over_managed managers false m o to = tt

looked_managed : (managers : List Network) (l : Look) (m : Message) (new : Received) (o : Opening) (to : Endpoint) → AreManaged managers new o to → AreManaged managers (looked l m new) o to
looked_managed managers IsNew m new o to w = w
looked_managed managers IsBusy m new o to w = tt
looked_managed managers IsAnsweredNon m new o to w = tt
looked_managed managers (IsAgain bytes) m new o to w = tt
looked_managed managers IsTableFull m new o to w = tt
looked_managed managers IsOverShare m new o to w = over_managed managers (x.is_confirmable m.kind) m o to

added_managed : (managers : List Network) (a : Add) (m : Message) (r : Asked) (o : Opening) (to : Endpoint) → is_allowed managers to r.action ≡ true → AreManaged managers (received_added a m r) o to
added_managed managers (IsWhole body) m r o to allowed = (action_managed managers to r.action r body allowed, tt)
added_managed managers Continues m r o to allowed = tt
added_managed managers IsIncomplete m r o to allowed = tt
added_managed managers IsBadLength m r o to allowed = tt
added_managed managers IsTooLarge m r o to allowed = tt
added_managed managers IsFull m r o to allowed = tt

asked_managed : (b : Bool) (f : FrontState) (m : Message) (r : Asked) (o : Opening) (to : Endpoint) → is_allowed f.managers to r.action ≡ b → AreManaged f.managers (received_if b f to m r) o to
asked_managed true f m r o to allowed = added_managed f.managers (add_in f to r) m r o to allowed
asked_managed false f m r o to allowed = tt

verdict_managed : (f : FrontState) (m : Message) (v : Verdict) (o : Opening) (to : Endpoint) → AreManaged f.managers (received_as f to m v) o to
verdict_managed f m (IsAsked r) o to = looked_managed f.managers (look_in f to m) m (request_received f to m r) o to (asked_managed (is_allowed f.managers to r.action) f m r o to refl)
verdict_managed f m (IsRefused answer) o to = looked_managed f.managers (look_in f to m) m (x.Refused m answer) o to tt
verdict_managed f m IsSilent o to = looked_managed f.managers (look_in f to m) m (x.Silenced m) o to tt
verdict_managed f m IsReset o to = tt
verdict_managed f m (IsSignal reset) o to = tt
verdict_managed f m IsIgnored o to = tt

read_managed : (f : FrontState) (r : Result Message Bad) (o : Opening) (to : Endpoint) → AreManaged f.managers (received_read f to r) o to
read_managed f (Ok m) o to = verdict_managed f m (verdict m) o to
read_managed f (Err bad.Ignore) o to = tt
read_managed f (Err (bad.Reset id)) o to = tt

received_managed : (f : FrontState) (to : Endpoint) (bytes : List ℕ) (o : Opening) → AreManaged f.managers (received f to bytes) o to
unfolding received
received_managed f to bytes o = read_managed f (reading_of bytes) o to

-- ---- a lease's job runs a program

entry_managed : (managers : List Network) (n number : ℕ) (e : Option ObserverEntry) → Each (IsManaged managers) (option_to_list (option_map (turn_job n number) (option_map interest_of e)))
entry_managed managers n number None = tt
entry_managed managers n number (Some e) = (λ asks. absurd (cc asks), tt)

turn_managed : (managers : List Network) (n : ℕ) (t : Option Turn) (w : ObserverList) → Each (IsManaged managers) (option_to_list (job_of_turn n t w))
turn_managed managers n None w = tt
turn_managed managers n (Some turn) w = entry_managed managers n turn.number (entry_out turn w)

due_managed : (s : Seen) (o : Option ℕ) (i at : ℕ) → Each (IsManaged s.policy.managers) (option_to_list (turn_at o s i at))
due_managed s None i at = tt
due_managed s (Some k) i at =
    let n = 8 * k + i in
    let notify_serial = (slot_at s n).notify_serial in
    turn_managed s.policy.managers n (next_turn notify_serial (list_at_time at (watch s n))) (observers_after (NextDue at notify_serial) (watch s n))

-- ---- all jobs

abbrev AllManaged : List Network → List Task → Type 0
AllManaged managers tasks = Each (λ t. IsManaged managers t.job) tasks

new_managed : (managers : List Network) (jobs : List Job) → Each (IsManaged managers) jobs → AllManaged managers (map new_task jobs)
new_managed managers [] w = tt
new_managed managers (j ∷ js) w = (w.0, new_managed managers js w.1)

brought_managed : (s : Seen) (e : Event) → AllManaged s.policy.managers (tasks_brought e s)
brought_managed s (Deliver now to bytes) = new_managed s.policy.managers _ (received_managed (front_at s now) to bytes.now (next_opening (front_at s now)))
brought_managed s (Due shard now) = subst (AllManaged s.policy.managers) (sym (append-nil (turns_by (AsksTurn shard now) s))) (new_managed s.policy.managers _ (due_managed s _ _ _))
brought_managed s (Fire slot now) = (λ asks. absurd (cc asks), tt)
brought_managed s other = tt

moved_managed : (s : Seen) (e : Event) (o : Option ℕ) → AllManaged s.policy.managers s.tasks → AllManaged s.policy.managers (tasks_moved o e s)
moved_managed s e None w = w
moved_managed s e (Some k) w = each_set (λ (t : Task). IsManaged s.policy.managers t.job) s.tasks k (task_moved (task_at s.tasks k) (transition e (inputs s k))) (λ lt. each_at (λ (t : Task). IsManaged s.policy.managers t.job) s.tasks k no_task w lt) w

all_managed : (h : History) → AllManaged (seen h).policy.managers (seen h).tasks
unfolding seen
all_managed (BeginsWith stored id policy) = tt
all_managed (Then h r) = each_append (λ (t : Task). IsManaged (seen h).policy.managers t.job) (tasks_moved (names r.event) r.event (seen h)) (tasks_brought r.event (seen h)) (moved_managed (seen h) r.event (names r.event) (all_managed h)) (brought_managed (seen h) r.event)

pub managed : (h : History) (k : ℕ) → HasCome (seen h) k → IsManaged (seen h).policy.managers (job (seen h) k)
managed h k come = each_at (λ (t : Task). IsManaged (seen h).policy.managers t.job) (seen h).tasks k no_task (all_managed h) come
