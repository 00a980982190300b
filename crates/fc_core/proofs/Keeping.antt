-- The summary of a history stays sound after any event.
use Rattle.std.proofs.Common.{◌≡◌, ℕ, ◌<◌, ◌≤◌, List, [], ◌∷◌, ◌++◌, Bool, true, false, Option, Some, None, Result, Ok, Err, length, map, refl, sym, ap, ◌∙◌, subst, arith, max, if◌then◌else◌}
use Rattle.std.specs.Prelude.{◌==◌}
use Rattle.std.proofs.lemmas.Bool.{eqb-true}
use Rattle.std.proofs.lemmas.List.{append-nil}
use Rattle.coap_msg.specs.declared.types.Bad.{Bad}
use Rattle.coap_msg.specs.declared.types.Bad.TheVariants as bad
use Rattle.coap_msg.specs.declared.types.Endpoint.{Endpoint}
use Rattle.coap_msg.specs.Wire.{Message}
use Rattle.coap_msg.specs.Reading.{reading_of}
use Rattle.coap_opts.specs.Fields.{IsResource, IsAskedWithin}
use Rattle.coap_opts.specs.declared.request.Action.{Action}
use Rattle.coap_opts.specs.declared.request.Action.TheVariants as actions
use Rattle.coap_opts.specs.Served.{resource_in}
use Rattle.coap_opts.specs.declared.request.Resource.{Resource}
use Rattle.coap_opts.specs.declared.request.Resource.TheVariants as resources
use Rattle.coap_opts.specs.Verdict.{Asked, Verdict, IsAsked, IsRefused, IsSilent, IsReset, IsSignal, IsIgnored, verdict}
use Rattle.coap_opts.proofs.Within.{asked_within}
use Rattle.coap_dedup.specs.Exchanges.{Look, IsNew, IsBusy, IsAgain, IsSilent as IsAnsweredNon, IsFull, IsOverShare}
use Rattle.fc_ticket.specs.declared.job.Job.{Job}
use Rattle.fc_ticket.specs.declared.job.Opening.{Opening}
use Rattle.fc_registry.specs.Slots.{Slot}
use Rattle.fc_registry.specs.Changes.{Change, after_changes}
use Rattle.fc_registry.specs.Record.{IsChain}
use Rattle.fc_core.specs.declared.event.Event.{Event}
use Rattle.fc_core.specs.declared.event.Event.TheVariants.{Deliver, Due, Fire}
use Rattle.fc_core.specs.Stage.{Stage}
use Rattle.fc_core.specs.declared.stage.Task.{Task}
use Rattle.fc_front.specs.Exchanges.{FrontState}
use Rattle.fc_core.specs.Fits.{FitsSlot, FitsStage}
use Rattle.fc_core.specs.History.{AsksTurn, around, Entry, Seen, and_then, changes_after, first_slot, front_at, job, no_task, inputs, slot_at, stage, task_at, tasks_brought, tasks_moved, turns_by}
use Rattle.fc_front.specs.Receiving.{AskWithin, JobWithin, Received, add_in, received_added, received_if, request_received, ask_by, brought, is_confirmable, over_share, job_of, look_in, looked, next_opening, received, received_as, received_read, slot_of_resource}
use Rattle.coap_block.specs.Uploads.{Add, Continues, IsWhole, IsIncomplete, IsBadLength, IsTooLarge, IsFull}
use Rattle.fc_front.specs.Policies.{is_allowed}
use Rattle.fc_front.specs.Receiving as x
use Rattle.fc_core.specs.Sound.{AllSafe, IsSafelySeen, IsSoundlySeen}
use Rattle.fc_core.specs.Stages.{new_task}
use Rattle.fc_front.specs.Timers.{timer_job}
use Rattle.fc_core.specs.Transitions.{task_moved, names, transition}
use Rattle.fc_core.proofs.Calling.{turns_within, watched_after}
use Rattle.fc_core.proofs.Lists.{Each, appended_all, written_all}
use Rattle.fc_core.proofs.Fitting.{after_changes-append, first_fits, fits_changed, transition_chain, transition_fits, transition_safe}

-- ---- the job of a delivery is within its limits

ask_within : (r : Asked) (action : Action) (body : List ℕ) → length r.query ≤ 64 → length r.payload ≤ 1024 → AskWithin (ask_by action r body)
ask_within r (actions.Get n) body q p = (q, p)
ask_within r (actions.Post n) body q p = (q, p)
ask_within r other body q p = tt

slot_within : (at : Resource) → IsResource at → slot_of_resource at < 64
slot_within (resources.Run n) is = is
slot_within (resources.Program n) is = is
slot_within resources.Core is = omega arith

asked_job : (o : Opening) (to : Endpoint) (m : Message) (r : Asked) (body : List ℕ) → IsAskedWithin m r → JobWithin (job_of o to m r body)
asked_job o to m r body w =
    let short : length r.payload ≤ 1024 = subst (λ (p : List ℕ). length p ≤ 1024) (sym w.payload_is) w.short in
    (slot_within (resource_in r.action) w.resource, ask_within r r.action body w.query short)

abbrev AreWithin : Received → Opening → Endpoint → Type 0
AreWithin x o to = Each JobWithin (brought x o to)

over_within : (c : Bool) (m : Message) (o : Opening) (to : Endpoint) → AreWithin (over_share c m) o to
over_within true m o to = tt
over_within false m o to = tt

looked_within : (l : Look) (m : Message) (new : Received) (o : Opening) (to : Endpoint) → AreWithin new o to → AreWithin (looked l m new) o to
looked_within IsNew m new o to w = w
looked_within IsBusy m new o to w = tt
looked_within IsAnsweredNon m new o to w = tt
looked_within (IsAgain bytes) m new o to w = tt
looked_within IsFull m new o to w = tt
looked_within IsOverShare m new o to w = over_within (is_confirmable m.kind) m o to

added_within : (a : Add) (m : Message) (r : Asked) (o : Opening) (to : Endpoint) → IsAskedWithin m r → AreWithin (received_added a m r) o to
added_within (IsWhole body) m r o to w = (asked_job o to m r body w, tt)
added_within Continues m r o to w = tt
added_within IsIncomplete m r o to w = tt
added_within IsBadLength m r o to w = tt
added_within IsTooLarge m r o to w = tt
added_within IsFull m r o to w = tt

asked_if : (b : Bool) (f : FrontState) (m : Message) (r : Asked) (o : Opening) (to : Endpoint) → IsAskedWithin m r → AreWithin (received_if b f to m r) o to
asked_if true f m r o to w = added_within (add_in f to r) m r o to w
asked_if false f m r o to w = tt

verdict_within : (f : FrontState) (m : Message) (v : Verdict) (o : Opening) (to : Endpoint) → verdict m ≡ v → AreWithin (received_as f to m v) o to
verdict_within f m (IsAsked r) o to e = looked_within (look_in f to m) m (request_received f to m r) o to (asked_if (is_allowed f.managers to r.action) f m r o to (asked_within m r e))
verdict_within f m (IsRefused answer) o to e = looked_within (look_in f to m) m (x.Refused m answer) o to tt
verdict_within f m IsSilent o to e = looked_within (look_in f to m) m (x.Silenced m) o to tt
verdict_within f m IsReset o to e = tt
verdict_within f m (IsSignal reset) o to e = tt
verdict_within f m IsIgnored o to e = tt

read_within : (f : FrontState) (r : Result Message Bad) (o : Opening) (to : Endpoint) → AreWithin (received_read f to r) o to
read_within f (Ok m) o to = verdict_within f m (verdict m) o to refl
read_within f (Err bad.Ignore) o to = tt
read_within f (Err (bad.Reset id)) o to = tt

pub received_within : (f : FrontState) (to : Endpoint) (bytes : List ℕ) (o : Opening) → AreWithin (received f to bytes) o to
unfolding received
received_within f to bytes o = read_within f (reading_of bytes) o to

timer_within : (n : ℕ) → JobWithin (timer_job n)
timer_within n = (omega arith, (omega arith, omega arith))

-- ---- the changes of a slot after an event

pub record Grows (s : Seen) (e : Event) (o : Option ℕ) (n : ℕ) : Type 0 where
  pub made : List Change
  pub is : changes_after o e s n ≡ made ++ s.changes n

grows_if : (s : Seen) (e : Event) (k n : ℕ) (b : Bool) → ((job s k).origin.slot == n) ≡ b → Grows s e (Some k) n
grows_if s e k n true is = record { made = (transition e (inputs s k)).changes; is = ap (λ (c : Bool). if c then (transition e (inputs s k)).changes ++ s.changes n else s.changes n) is }
grows_if s e k n false is = record { made = []; is = ap (λ (c : Bool). if c then (transition e (inputs s k)).changes ++ s.changes n else s.changes n) is }

pub grows : (s : Seen) (e : Event) (o : Option ℕ) (n : ℕ) → Grows s e o n
grows s e None n = record { made = []; is = refl }
grows s e (Some k) n = grows_if s e k n ((job s k).origin.slot == n) refl

abbrev slot_after : Option ℕ → Event → Seen → ℕ → Slot
slot_after o e s n = after_changes (first_slot s n) (changes_after o e s n)

-- a slot after an event is the slot before it, after the changes of the event.
pub slot_grows : (s : Seen) (e : Event) (o : Option ℕ) (n : ℕ) (g : Grows s e o n) → slot_after o e s n ≡ after_changes (slot_at s n) g.made
slot_grows s e o n g = ap (after_changes (first_slot s n)) g.is ∙ after_changes-append (first_slot s n) g.made (s.changes n)

-- a job that fits its slot still fits it after an event.
later_fits : (s : Seen) (e : Event) (o : Option ℕ) (j : Job) (st : Stage) → FitsStage j (slot_at s j.origin.slot) st → FitsStage j (slot_after o e s j.origin.slot) st
later_fits s e o j st f =
    let g = grows s e o j.origin.slot in
    subst (λ (slot : Slot). FitsStage j slot st) (sym (slot_grows s e o j.origin.slot g)) (fits_changed j (slot_at s j.origin.slot) st g.made f)

-- ---- each part

chain_if : (s : Seen) (e : Event) (k n : ℕ) (b : Bool) → ((job s k).origin.slot == n) ≡ b → IsSoundlySeen s → IsChain (first_slot s n) (if b then (transition e (inputs s k)).changes ++ s.changes n else s.changes n)
chain_if s e k n true is a =
    let slot_is = eqb-true (job s k).origin.slot n is in
    subst (λ (m : ℕ). IsChain (first_slot s m) ((transition e (inputs s k)).changes ++ s.changes m)) slot_is
    (transition_chain e (job s k) (first_slot s (job s k).origin.slot) (s.changes (job s k).origin.slot) (around s (job s k).origin.slot) (stage s k) (a.stages k) (a.chain (job s k).origin.slot))
chain_if s e k n false is a = a.chain n

chain_after : (s : Seen) (e : Event) (o : Option ℕ) (n : ℕ) → IsSoundlySeen s → IsChain (first_slot s n) (changes_after o e s n)
chain_after s e None n a = a.chain n
chain_after s e (Some k) n a = chain_if s e k n ((job s k).origin.slot == n) refl a

abbrev FitsAfter : Option ℕ → Event → Seen → Task → Type 0
FitsAfter o e s t = JobWithin t.job × FitsStage t.job (slot_after o e s t.job.origin.slot) t.stage

old_fit : (s : Seen) (e : Event) (o : Option ℕ) → IsSoundlySeen s → (k : ℕ) → FitsAfter o e s (task_at s.tasks k)
old_fit s e o a k = (a.within k, later_fits s e o (job s k) (stage s k) (a.stages k))

moved_fit : (s : Seen) (e : Event) (o : Option ℕ) → IsSoundlySeen s → (p : Option ℕ) → (k : ℕ) → FitsAfter o e s (task_at (tasks_moved p e s) k)
moved_fit s e o a None k = old_fit s e o a k
moved_fit s e o a (Some j) k =
    let new = task_moved (task_at s.tasks j) (transition e (inputs s j)) in
    written_all (FitsAfter o e s) s.tasks j new no_task (old_fit s e o a) (a.within j, later_fits s e o (job s j) new.stage (transition_fits e (job s j) (slot_at s (job s j).origin.slot) (around s (job s j).origin.slot) (stage s j) (a.stages j))) k

new_fit : (s : Seen) (e : Event) (o : Option ℕ) (jobs : List Job) → Each JobWithin jobs → Each (FitsAfter o e s) (map new_task jobs)
new_fit s e o [] w = tt
new_fit s e o (j ∷ js) w = ((w.0, first_fits j (slot_after o e s j.origin.slot)), new_fit s e o js w.1)

brought_fit : (s : Seen) (o : Option ℕ) (e d : Event) → IsSoundlySeen s → Each (FitsAfter o e s) (tasks_brought d s)
brought_fit s o e (Deliver now to b) a = new_fit s e o _ (received_within _ to b.now (next_opening (front_at s now)))
brought_fit s o e (Due shard now) a = subst (Each (FitsAfter o e s)) (sym (append-nil (turns_by (AsksTurn shard now) s))) (new_fit s e o _ (turns_within s shard (max (s.shard_time shard) now) a))
brought_fit s o e (Fire slot now) a = new_fit s e o (timer_job slot ∷ []) (timer_within slot, tt)
brought_fit s o e other a = tt

all_fit : (s : Seen) (e : Event) (o : Option ℕ) → IsSoundlySeen s → (k : ℕ) → FitsAfter o e s (task_at (tasks_moved o e s ++ tasks_brought e s) k)
all_fit s e o a k = appended_all (FitsAfter o e s) (tasks_moved o e s) (tasks_brought e s) no_task (moved_fit s e o a o) (brought_fit s o e e a) k

pub still_sound : (r : Entry) (s : Seen) → IsSoundlySeen s → IsSoundlySeen (and_then r s)
still_sound r s a = record {
  chain = λ n. chain_after s r.event (names r.event) n a;
  within = λ k. (all_fit s r.event (names r.event) a k).0;
  stages = λ k. (all_fit s r.event (names r.event) a k).1;
  watched = watched_after s a r.event;
}

-- ---- safe programs

safe_if : (s : Seen) (e : Event) (k n : ℕ) (b : Bool) → ((job s k).origin.slot == n) ≡ b → IsSoundlySeen s → AllSafe (transition e (inputs s k)).changes → IsSafelySeen s → FitsSlot (after_changes (first_slot s n) (if b then (transition e (inputs s k)).changes ++ s.changes n else s.changes n)).present
safe_if s e k n true is a made f =
    let slot_is = eqb-true (job s k).origin.slot n is in
    let m = (job s k).origin.slot in
    subst (λ (i : ℕ). FitsSlot (after_changes (first_slot s i) ((transition e (inputs s k)).changes ++ s.changes i)).present) slot_is
    (subst (λ (x : Slot). FitsSlot x.present) (sym (after_changes-append (first_slot s m) (transition e (inputs s k)).changes (s.changes m)))
    (transition_safe e (job s k) (slot_at s m) (around s (job s k).origin.slot) (stage s k) (a.within k).1 (a.stages k) made (f.slots m)))
safe_if s e k n false is a made f = f.slots n

-- each program that the event installs is safe.
abbrev pub IsSafeEffect : Option ℕ → Event → Seen → Type 0
IsSafeEffect None e s = Unit {0}
IsSafeEffect (Some k) e s = AllSafe (transition e (inputs s k)).changes

safe_after : (s : Seen) (e : Event) (o : Option ℕ) (n : ℕ) → IsSoundlySeen s → IsSafeEffect o e s → IsSafelySeen s → FitsSlot (slot_after o e s n).present
safe_after s e None n a made f = f.slots n
safe_after s e (Some k) n a made f = safe_if s e k n ((job s k).origin.slot == n) refl a made f

pub still_safe : (r : Entry) (s : Seen) → IsSoundlySeen s → IsSafeEffect (names r.event) r.event s → IsSafelySeen s → IsSafelySeen (and_then r s)
still_safe r s a made f = record { slots = λ n. safe_after s r.event (names r.event) n a made f }
