-- The calls of each event on the observers of slots. The requests of these observers are within
-- their limits.
use Rattle.std.proofs.Common.{◌≡◌, ℕ, ◌<◌, ◌+◌, ◌*◌, ◌%◌, List, [], ◌∷◌, ◌++◌, Bool, true, false, Option, Some, None, max, refl, sym, ap, ◌∙◌, subst, arith, cond, if◌then◌else◌}
use Rattle.std.specs.Prelude.{◌==◌, find, nat_lt, IfSome}
use Rattle.std.proofs.lemmas.Bool.{ltb-true}
use Rattle.std.specs.List.{All}
use Rattle.std.specs.Option.{option_map, option_to_list}
use Rattle.std.proofs.lemmas.List.Elements.{All-head, All-tail}
use Rattle.arrayvec.specs.ArrayVec.{ArrayVec}
use Rattle.coap_msg.specs.declared.types.Emission.{Emission}
use Rattle.coap_msg.specs.declared.types.Endpoint.{Endpoint}
use Rattle.fc_observe.specs.declared.entry.Entry.{Entry}
use Rattle.fc_observe.specs.declared.entry.Turn.{Turn}
use Rattle.fc_observe.specs.Calls.{Advance, GiveUp as GiveUpTurn, NextDue, Notify, ObserverCall, Register, Tick as TickObservers, after_calls, changed_by, observers, observers_after}
use Rattle.fc_observe.specs.Entries.{must_confirm, notified_by}
use Rattle.fc_observe.specs.Observers.{ObserverList, list_at_time, entry_out, is_out, next_turn}
use Rattle.fc_observe.specs.Views.{interest_of}
use Rattle.fc_observe.proofs.Keeping.{IfRegisters, all_after}
use Rattle.fc_registry.specs.declared.commit.CommitOutcome.{CommitOutcome}
use Rattle.fc_registry.specs.declared.commit.CommitOutcome.TheVariants.{Writes, Keeps, Overtakes, Ends}
use Rattle.fc_ticket.specs.declared.job.Ask.{Ask}
use Rattle.fc_ticket.specs.declared.job.Ask.TheVariants.{Run}
use Rattle.fc_ticket.specs.declared.job.Job.{Job}
use Rattle.fc_ticket.specs.declared.job.InitialVars.{InitialVars}
use Rattle.fc_ticket.specs.Registrations.{is_cancellation, observe_calls, observe_calls_by, is_registration}
use Rattle.fc_registry.specs.Calls.{outcome, is_out_at, mark_missing_calls, turn_calls}
use Rattle.fc_ticket.specs.Runs.{request_of, initial_vars_of}
use Rattle.fc_ticket.specs.Notes.{keeps_observer, note_at, note_calls, serial_told, told_call}
use Rattle.fc_ticket.specs.Tickets.{Present, Ticket}
use Rattle.fc_registry.specs.Slots.{Slot}
use Rattle.fc_registry.specs.Turns.{job_of_turn, turn_given_to, turn_job}
use Rattle.fc_registry.specs.Watches.{place_from, signal_call}
use Rattle.fc_verify.specs.Accepted.{Judgement, Accepts, Breaks, Untypable}
use Rattle.fc_verify.specs.Judged.{judged}
use Rattle.fc_core.specs.declared.event.Event.{Event}
use Rattle.fc_core.specs.declared.event.Event.TheVariants.{Commit, Note}
use Rattle.fc_core.specs.Stage.{Stage}
use Rattle.fc_core.specs.Stage.{ToCommit, ToInstall, ToTell}
use Rattle.fc_core.specs.TurnStage as turns
use Rattle.fc_core.specs.Fits.{FitsStage}
use Rattle.fc_core.specs.History.{AtShard, AsksTurn, Signals, Ticks, Calm, Seen, around, at_shard, calls_by, calls_named, due_in, is_due_at, is_place_of, job, overdue_in, inputs, slot_at, stage, turn_at, watch}
use Rattle.fc_front.specs.Receiving.{AskWithin, JobWithin, RequestWithin}
use Rattle.fc_core.specs.Sound.{IsSoundlySeen}
use Rattle.fc_core.specs.Stages.{image_of}
use Rattle.fc_core.specs.Transitions.{Around, Inputs, names, transition, calls_of_call, install_call, install_if}
use Rattle.fc_core.proofs.ByStep.{Step, by_step, event_by, effect_by, stage_by, committed}
use Rattle.fc_core.proofs.ByStep as steps
use Rattle.fc_core.proofs.Lists.{Each}
use Rattle.fc_core.proofs.Places.{place_below}
use Rattle.fc_core.proofs.Watches.{after_append}

-- ---- the calls of an event of a job

-- the calls of an event of a job: none, those of a commit without a write, of a lease's snapshot,
-- of its notification, or of its release.
pub data CallsBy (e : Event) (ws : Around) (at : Stage) (cs : List ObserverCall) : Type 0 where
  NoCall : (is : cs ≡ []) → CallsBy e ws at cs
  OfCommit : (k now n time : ℕ) (t : Ticket) (event : e ≡ Commit k now) (stands : at ≡ ToCommit n t) (is : cs ≡ observe_calls time t) → CallsBy e ws at cs
  OfSnapshot : (turn : Turn) (time : ℕ) (present : Option Present) (w : ObserverList) (is : cs ≡ turn_calls turn time present w) → CallsBy e ws at cs
  OfNote : (k now random id : ℕ) (turn : Turn) (found : Option Ticket) (event : e ≡ Note k now random) (stands : at ≡ ToTell turn (turns.ToNote found id)) (is : cs ≡ note_calls turn id random (max ws.time now) found (note_at turn id (max ws.time now) found ws.watch)) → CallsBy e ws at cs
  OfGiveUp : (turn : Turn) (time : ℕ) (is : cs ≡ GiveUpTurn turn time ∷ []) → CallsBy e ws at cs

abbrev at : Job → Slot → Around → Stage → Inputs
at job slot ws stage = record { job = job; slot = slot; around = ws; stage = stage }

committed_calls : (k now n : ℕ) (t : Ticket) (serial : ℕ) (ws : Around) (o : CommitOutcome) → CallsBy (Commit k now) ws (ToCommit n t) (committed o n t now serial ws).calls
committed_calls k now n t serial ws Keeps = OfCommit k now n (max ws.time now) t refl refl refl
committed_calls k now n t serial ws Writes = NoCall refl
committed_calls k now n t serial ws Overtakes = NoCall refl
committed_calls k now n t serial ws Ends = NoCall refl

installed_calls : (at random : ℕ) (x : Inputs) (v : InitialVars) (j : Judgement) → calls_of_call at random x (install_call v j x.slot) ≡ []
installed_calls at random x v (Accepts p) = refl
installed_calls at random x v (Breaks rule k) = refl
installed_calls at random x v Untypable = refl

pub verified_calls : (at random : ℕ) (memory : Bool) (x : Inputs) → calls_of_call at random x (install_if memory (initial_vars_of x.job.ask) (judged (image_of x.job.ask)) x.slot) ≡ []
verified_calls at random true x = installed_calls at random x (initial_vars_of x.job.ask) (judged (image_of x.job.ask))
verified_calls at random false x = refl

step_calls : (k : ℕ) (c : Step) (job : Job) (slot : Slot) (ws : Around) → CallsBy (event_by k c) ws (stage_by c) (effect_by c job slot ws).calls
step_calls k (steps.TakesTurn memory readings turn) job slot ws = OfSnapshot turn ws.time slot.present ws.watch refl
step_calls k (steps.Commits now n t) job slot ws = committed_calls k now n t slot.serial ws (outcome t slot)
step_calls k (steps.Installs memory) job slot ws = NoCall (verified_calls ws.time 0 memory (at job slot ws ToInstall))
step_calls k (steps.Notes now random turn found id) job slot ws = OfNote k now random id turn found refl refl refl
step_calls k (steps.GivesUp now turn needs) job slot ws = OfGiveUp turn (max ws.time now) refl
step_calls k other job slot ws = NoCall refl

pub transition_calls : (e : Event) (job : Job) (slot : Slot) (ws : Around) (s : Stage) → CallsBy e ws s (transition e (at job slot ws s)).calls
transition_calls e job slot ws s = by_step (λ d st m. CallsBy d ws st m.calls) job slot ws (λ k c asked. step_calls k c job slot ws) (λ d st rest. NoCall refl) e s

-- ---- a call keeps the requests within their limits

abbrev pub EntryWithin : Entry → Type 0
EntryWithin o = RequestWithin o.request

-- if the call registers an observer, the observer's request is within the limits.
abbrev CallWithin : ObserverCall → Type 0
CallWithin (Register now to token request szx serial) = RequestWithin request
CallWithin other = Unit {0}

notified_within : (now id serial random : ℕ) (bytes : ArrayVec ℕ) (o : Entry) (b : Bool) → EntryWithin o → EntryWithin (notified_by b now id serial random bytes o)
notified_within now id serial random bytes o true w = w
notified_within now id serial random bytes o false w = w

changed_within : (c : ObserverCall) (t : ObserverList) (o : Entry) → EntryWithin o → EntryWithin (changed_by c t o)
changed_within (Notify now turn id serial random bytes) t o w = notified_within (max t.time now) id serial random bytes o (must_confirm t.confirm_after (max t.time now) o) w
changed_within other t o w = w

new_within : (c : ObserverCall) (t : ObserverList) → CallWithin c → IfRegisters EntryWithin c t
new_within (Register now to token request szx serial) t w = w
new_within other t w = tt

call_within : (c : ObserverCall) (t : ObserverList) → CallWithin c → All EntryWithin t.held → All EntryWithin (observers_after c t).held
call_within c t w all = all_after EntryWithin EntryWithin c t (λ o here. here) (λ o here may. changed_within c t o here) (new_within c t w) all

calls_within : (cs : List ObserverCall) (t : ObserverList) → Each CallWithin cs → All EntryWithin t.held → All EntryWithin (after_calls cs t).held
calls_within [] t w all = all
calls_within (c ∷ cs) t w all = call_within c (after_calls cs t) w.0 (calls_within cs t w.1 all)

-- ---- the calls of an event

request_within : (ask : Ask) → AskWithin ask → RequestWithin (request_of ask)
request_within (Run request) w = w
request_within other w = (omega arith, omega arith)

observed_within : (b c : Bool) (time : ℕ) (t : Ticket) → RequestWithin t.request → Each CallWithin (observe_calls_by b c time t)
observed_within true c time t w = (w, tt)
observed_within false true time t w = (tt, tt)
observed_within false false time t w = tt

mark_missing_within : (out : Bool) (turn : Turn) (present : Option Present) (time : ℕ) → Each CallWithin (mark_missing_calls out turn present ++ Advance time ∷ [])
mark_missing_within true turn None time = (tt, (tt, tt))
mark_missing_within true turn (Some p) time = (tt, tt)
mark_missing_within false turn present time = (tt, tt)

told_within : (b : Bool) (turn : Turn) (id random time serial : ℕ) (bytes : ArrayVec ℕ) → CallWithin (told_call b turn id random time serial bytes)
told_within true turn id random time serial bytes = tt
told_within false turn id random time serial bytes = tt

note_within : (turn : Turn) (id random time : ℕ) (found : Option Ticket) (sent : Option Emission) → Each CallWithin (note_calls turn id random time found sent)
note_within turn id random time found None = (tt, tt)
note_within turn id random time found (Some e) = (told_within (keeps_observer found) turn id random time (serial_told found) e.bytes, (tt, tt))

transition_within : (e : Event) (job : Job) (slot : Slot) (ws : Around) (s : Stage) (cs : List ObserverCall) → FitsStage job slot s → AskWithin job.ask → CallsBy e ws s cs → Each CallWithin cs
transition_within e job slot ws s cs f w (NoCall is) = subst (Each CallWithin) (sym is) tt
transition_within e job slot ws s cs f w (OfCommit k now n time t event stands is) =
    let fits : FitsStage job slot (ToCommit n t) = subst (FitsStage job slot) stands f in
    subst (Each CallWithin) (sym is) (observed_within (is_registration t) (is_cancellation t) time t (subst RequestWithin (sym fits.1.request) (request_within job.ask w)))
transition_within e job slot ws s cs f w (OfSnapshot turn time present t is) = subst (Each CallWithin) (sym is) (mark_missing_within (is_out_at turn time t) turn present time)
transition_within e job slot ws s cs f w (OfNote k now random id turn found event stands is) = subst (Each CallWithin) (sym is) (note_within turn id random (max ws.time now) found (note_at turn id (max ws.time now) found ws.watch))
transition_within e job slot ws s cs f w (OfGiveUp turn time is) = subst (Each CallWithin) (sym is) (tt, tt)

one_within : (b : Bool) (c : ObserverCall) → CallWithin c → Each CallWithin (if b then c ∷ [] else [])
one_within true c w = (w, tt)
one_within false c w = tt

signal_within : (reset : Bool) (to : Endpoint) (id : ℕ) → CallWithin (signal_call reset to id)
signal_within true to id = tt
signal_within false to id = tt

module _ (s : Seen) (a : IsSoundlySeen s) where
  named_if : (e : Event) (k : ℕ) (b : Bool) → Each CallWithin (if b then (transition e (inputs s k)).calls else [])
  named_if e k true =
      let n = (job s k).origin.slot in
      transition_within e (job s k) (slot_at s n) (around s n) (stage s k) (transition e (inputs s k)).calls (a.stages k) (a.within k).1 (transition_calls e (job s k) (slot_at s n) (around s n) (stage s k))
  named_if e k false = tt

  named_within : (e : Event) (o : Option ℕ) (n : ℕ) → Each CallWithin (calls_named o e s n)
  named_within e None n = tt
  named_within e (Some k) n = named_if e k ((job s k).origin.slot == n)

  shard_within : (y : AtShard) (n : ℕ) → Each CallWithin (calls_by y s n)
  shard_within (AsksTurn shard now) n =
      let at = max (s.shard_time shard) now in
      one_within (is_place_of (due_in s shard at) shard n) (NextDue at (slot_at s n).notify_serial) tt
  shard_within (Signals shard to id reset) n = one_within ((n % 8) == shard) (signal_call reset to id) (signal_within reset to id)
  shard_within (Ticks shard now) n =
      let at = max (s.shard_time shard) now in
      one_within (is_place_of (overdue_in s shard at) shard n) (TickObservers at) tt
  shard_within Calm n = tt

  pub watched_after : (e : Event) (n : ℕ) → All EntryWithin (observers n s.policy.confirm_after (calls_named (names e) e s n ++ (calls_by (at_shard e) s n ++ s.calls n))).held
  watched_after e n =
      let named = calls_named (names e) e s n in
      let of_shard = calls_by (at_shard e) s n in
      let is = after_append n s.policy.confirm_after named (of_shard ++ s.calls n) ∙ ap (after_calls named) (after_append n s.policy.confirm_after of_shard (s.calls n)) in
      subst (λ (t : ObserverList). All EntryWithin t.held) (sym is) (calls_within named (after_calls of_shard (watch s n)) (named_within e (names e) n) (calls_within of_shard (watch s n) (shard_within (at_shard e) n) (a.watched n)))

-- ---- the job of a lease

found_by : (p : Entry → Bool) (o : Entry) (os : List Entry) (b : Bool) → EntryWithin o → IfSome (find p os) EntryWithin → IfSome (cond b (Some o) (find p os)) EntryWithin
found_by p o os true here rest = here
found_by p o os false here rest = rest

found_within : (p : Entry → Bool) (os : List Entry) → All EntryWithin os → IfSome (find p os) EntryWithin
found_within p [] all = tt
found_within p (o ∷ os) all = found_by p o os (p o) (All-head EntryWithin o os all) (found_within p os (All-tail EntryWithin o os all))

entry_within : (n number : ℕ) (e : Option Entry) → n < 64 → IfSome e EntryWithin → Each JobWithin (option_to_list (option_map (turn_job n number) (option_map interest_of e)))
entry_within n number None lt w = tt
entry_within n number (Some o) lt w = ((lt, w), tt)

job_within : (n : ℕ) (p : Option Turn) (t : ObserverList) → n < 64 → All EntryWithin t.held → Each JobWithin (option_to_list (job_of_turn n p t))
job_within n None t lt all = tt
job_within n (Some turn) t lt all = entry_within n turn.number (entry_out turn t) lt (found_within (is_out turn t) t.held all)

given_within : (n now notify_serial : ℕ) (t : ObserverList) → n < 64 → All EntryWithin t.held → Each JobWithin (option_to_list (turn_given_to n now notify_serial t))
given_within n now notify_serial t lt all = job_within n (next_turn notify_serial (list_at_time now t)) (observers_after (NextDue now notify_serial) t) lt (call_within (NextDue now notify_serial) t tt all)

due_by : (s : Seen) (i at k : ℕ) (b : Bool) → nat_lt i 8 ≡ b → (if b then place_from (is_due_at s i at) 8 0 else None) ≡ Some k → 8 * k + i < 64
due_by s i at k true low e = let k8 : k < 8 = place_below (is_due_at s i at) 8 0 k e in let i8 : i < 8 = ltb-true i 8 low in omega (arith, k8, i8)
due_by s i at k false low e = absurd (cc e)

due_below : (s : Seen) (i at k : ℕ) → due_in s i at ≡ Some k → 8 * k + i < 64
unfolding due_in
due_below s i at k e = due_by s i at k (nat_lt i 8) refl e

turn_within : (s : Seen) (i at : ℕ) (p : Option ℕ) → IsSoundlySeen s → ((k : ℕ) → p ≡ Some k → 8 * k + i < 64) → Each JobWithin (option_to_list (turn_at p s i at))
turn_within s i at None a below = tt
turn_within s i at (Some k) a below = given_within (8 * k + i) at (slot_at s (8 * k + i)).notify_serial (watch s (8 * k + i)) (below k refl) (a.watched (8 * k + i))

pub turns_within : (s : Seen) (i at : ℕ) → IsSoundlySeen s → Each JobWithin (option_to_list (turn_at (due_in s i at) s i at))
turns_within s i at a = turn_within s i at (due_in s i at) a (due_below s i at)
