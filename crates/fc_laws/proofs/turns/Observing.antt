-- The calls of commits on the observers of a slot.
use Rattle.std.proofs.Common.{◌≡◌, ℕ, ◌%◌, List, [], ◌∷◌, ◌++◌, length, Bool, true, false, Option, Some, None, max, refl, sym, ap, ◌∙◌, inl, if◌then◌else◌}
use Rattle.std.specs.Prelude.{◌==◌, ◌&&◌, ◌||◌, nat_lt}
use Rattle.std.specs.List.{list_any}
use Rattle.std.proofs.lemmas.Bool.{eq-eqb, eqb-true, ne_eqb}
use Rattle.std.proofs.lemmas.List.Folds.{list_any-append}
use Rattle.coap_msg.specs.declared.types.Emission.{Emission}
use Rattle.coap_opts.specs.Observe.{has_observe}
use Rattle.coap_opts.specs.Values.{Place}
use Rattle.fc_help.specs.declared.request.Method.TheVariants.{Get}
use Rattle.fc_observe.specs.declared.entry.Entry.{Entry}
use Rattle.fc_observe.specs.declared.observers.Registered.TheVariants.{Entered, Full}
use Rattle.fc_observe.specs.Calls.{ObserverCall, observers}
use Rattle.fc_observe.specs.Entries.{is_entry_of, new_entry}
use Rattle.fc_observe.specs.Observers.{ObserverList, list_at_time, cancelled, entered_by, registered, registration, registration_by, without_those}
use Rattle.fc_registry.specs.declared.commit.CommitOutcome.{CommitOutcome}
use Rattle.fc_registry.specs.declared.commit.CommitOutcome.TheVariants.{Writes, Keeps, Overtakes, Ends}
use Rattle.fc_ticket.specs.Registrations.{is_cancellation, is_entered, is_first_block, is_observed, observe_calls_by, is_registration, szx_of}
use Rattle.fc_ticket.specs.Runs.{meaning_at}
use Rattle.fc_registry.specs.Calls.{outcome, wants}
use Rattle.fc_ticket.specs.Tickets.{Ticket}
use Rattle.fc_core.specs.declared.event.Event.TheVariants.{Commit}
use Rattle.fc_core.specs.Stage.{Stage}
use Rattle.fc_core.specs.Stage.{ToAnswer, ToCommit}
use Rattle.fc_core.specs.History.{Seen, and_then, around, did, job, inputs, slot_at, stage, watch}
use Rattle.fc_core.specs.Laws.{slot_of}
use Rattle.fc_laws.specs.ObserveLaws.{AsksToObserve, IsFirst, is_among}
use Rattle.fc_core.specs.Stages.{run_content}
use Rattle.fc_core.specs.Transitions.{Around, Inputs, transition}
use Rattle.fc_core.proofs.ByStep.{committed}
use Rattle.fc_laws.proofs.front.Once.{equal_endpoints, same_bytes}
use Rattle.fc_laws.proofs.jobs.Others.{is_here, named_stage}
use Rattle.fc_laws.proofs.slots.Writing.{keeps_unwanted, unwanted}

-- ---- registrations and cancellations

both : (a b : Bool) → (a && b) ≡ true → (a ≡ true) × (b ≡ true)
both true b e = (refl, e)
both false b e = absurd (cc)

pub value_is : (value : ℕ) (o : Option ℕ) → has_observe value o ≡ true → o ≡ Some value
value_is value None e = absurd (cc)
value_is value (Some own) e = ap Some (eqb-true own value e)

first_is : (b : Option Place) → IsFirst b → is_first_block b ≡ true
first_is None f = refl
first_is (Some block) f = eq-eqb block.number 0 f

is_first : (b : Option Place) → is_first_block b ≡ true → IsFirst b
is_first None e = tt
is_first (Some block) e = eqb-true block.number 0 e

registers_asked : (t : Ticket) → AsksToObserve t → is_registration t ≡ true
registers_asked t a = λ i. has_observe 0 (a.observe i) && (first_is t.block a.first i && eq-eqb (meaning_at t).code 69 a.content i)

pub asked : (t : Ticket) → is_registration t ≡ true → AsksToObserve t
asked t e =
    let tests = both (has_observe 0 t.observe) (is_first_block t.block && ((meaning_at t).code == 69)) e in
    let rest = both (is_first_block t.block) ((meaning_at t).code == 69) tests.1 in
    record { observe = value_is 0 t.observe tests.0; first = is_first t.block rest.0; content = eqb-true (meaning_at t).code 69 rest.1 }

not_true : (b : Bool) → (b ≡ true → ⊥) → b ≡ false
not_true true not = absurd (not refl)
not_true false not = refl

-- ---- a commit

abbrev at : Seen → ℕ → Stage → Inputs
at s k st = record { job = job s k; slot = slot_at s (slot_of s k); around = around s (slot_of s k); stage = st }

-- the observers of the job's slot after a commit are those after the calls of the commit's outcome.
watched : (s : Seen) (k now n : ℕ) (t : Ticket) (o : Option Emission) (x : CommitOutcome) → stage s k ≡ ToCommit n t → outcome t (slot_at s (slot_of s k)) ≡ x → watch (and_then (did (Commit k now) o) s) (slot_of s k) ≡ observers (slot_of s k) s.policy.confirm_after ((committed x n t now (slot_at s (slot_of s k)).serial (around s (slot_of s k))).calls ++ s.calls (slot_of s k))
watched s k now n t o x is comes =
    let m = slot_of s k in
    ap (λ (b : Bool). observers m s.policy.confirm_after ((if b then (transition (Commit k now) (inputs s k)).calls else []) ++ s.calls m)) (eq-eqb m m refl)
    ∙ (ap (λ (st : Stage). observers m s.policy.confirm_after ((transition (Commit k now) (at s k st)).calls ++ s.calls m)) is
    ∙ ap (λ (y : CommitOutcome). observers m s.policy.confirm_after ((committed y n t now (slot_at s m).serial (around s m)).calls ++ s.calls m)) comes)

-- the stage of the job after a commit is that of the commit's outcome.
leaves : (s : Seen) (k now n : ℕ) (t : Ticket) (o : Option Emission) (x : CommitOutcome) → stage s k ≡ ToCommit n t → outcome t (slot_at s (slot_of s k)) ≡ x → stage (and_then (did (Commit k now) o) s) k ≡ (committed x n t now (slot_at s (slot_of s k)).serial (around s (slot_of s k))).stage
leaves s k now n t o x is comes =
    named_stage (did (Commit k now) o) s k (is_here s k (ToCommit n t) is (λ e. absurd (cc e))) refl
    ∙ (ap (λ (st : Stage). (transition (Commit k now) (at s k st)).stage) is
    ∙ ap (λ (y : CommitOutcome). (committed y n t now (slot_at s (slot_of s k)).serial (around s (slot_of s k))).stage) comes)

-- a GET has nothing to write.
keeps : (s : Seen) (k : ℕ) (t : Ticket) → t.request.method ≡ Get → outcome t (slot_at s (slot_of s k)) ≡ Keeps
keeps s k t get = keeps_unwanted t (slot_at s (slot_of s k)) (wants t) refl (unwanted t (inl get))

-- ---- registration

pub get_registers : (s : Seen) (k now n : ℕ) (t : Ticket) (o : Option Emission) → stage s k ≡ ToCommit n t → t.request.method ≡ Get → AsksToObserve t → watch (and_then (did (Commit k now) o) s) (slot_of s k) ≡ registered t.origin.endpoint t.token t.request (szx_of t.block) t.serial (list_at_time (max (s.shard_time (slot_of s k % 8)) now) (watch s (slot_of s k)))
get_registers s k now n t o is get a =
    let m = slot_of s k in
    watched s k now n t o Keeps is (keeps s k t get)
    ∙ ap (λ (b : Bool). observers m s.policy.confirm_after (observe_calls_by b (is_cancellation t) (max (s.shard_time (m % 8)) now) t ++ s.calls m)) (registers_asked t a)

-- an entry has its own endpoint and token.
pub own : (o : Entry) → is_entry_of o.endpoint o.token.items o ≡ true
own o = λ i. equal_endpoints o.endpoint o.endpoint refl i && same_bytes o.token.items i

or_true : (b : Bool) → (b || true) ≡ true
or_true true = refl
or_true false = refl

-- a client that was registered is among the entries.
entered_among : (o : Entry) (held : List Entry) (b : Bool) → list_any (is_entry_of o.endpoint o.token.items) held ≡ b → list_any (is_entry_of o.endpoint o.token.items) (without_those (is_entry_of o.endpoint o.token.items) held ++ o ∷ []) ≡ true
entered_among o held b is =
    let p = is_entry_of o.endpoint o.token.items in
    list_any-append p (without_those p held) (o ∷ []) ∙ (ap (λ (d : Bool). list_any p (without_those p held) || (d || false)) (own o) ∙ or_true (list_any p (without_those p held)))

room_among : (o : Entry) (held : List Entry) (b c : Bool) → list_any (is_entry_of o.endpoint o.token.items) held ≡ b → nat_lt (length held) 32 ≡ c → list_any (is_entry_of o.endpoint o.token.items) (entered_by (registration_by b (length held)) o.endpoint o.token.items o held) ≡ is_entered (registration_by b (length held))
room_among o held true c known room = entered_among o held true known
room_among o held false true known room = (λ i. list_any (is_entry_of o.endpoint o.token.items) (entered_by (if room i then Entered else Full) o.endpoint o.token.items o held)) ∙ (entered_among o held false known ∙ λ i. is_entered (if sym room i then Entered else Full))
room_among o held false false known room = (λ i. list_any (is_entry_of o.endpoint o.token.items) (entered_by (if room i then Entered else Full) o.endpoint o.token.items o held)) ∙ (known ∙ λ i. is_entered (if sym room i then Entered else Full))

-- the answer says that a client observes exactly if it is among the observers.
observed_among : (t : Ticket) (now : ℕ) (w : ObserverList) → is_registration t ≡ true → is_observed t w ≡ is_among t (registered t.origin.endpoint t.token t.request (szx_of t.block) t.serial (list_at_time now w))
observed_among t now w r =
    let p = is_entry_of t.origin.endpoint t.token.items in
    let o = new_entry (max w.time now) t.origin.endpoint t.token t.request (szx_of t.block) t.serial in
    ap (λ (b : Bool). b && is_entered (registration t.origin.endpoint t.token.items w)) r
    ∙ sym (room_among o w.held (list_any p w.held) (nat_lt (length w.held) 32) refl refl)

pub registered_is_told : (s : Seen) (k now n : ℕ) (t : Ticket) (o : Option Emission) → stage s k ≡ ToCommit n t → t.request.method ≡ Get → AsksToObserve t → stage (and_then (did (Commit k now) o) s) k ≡ ToAnswer (run_content t (is_among t (watch (and_then (did (Commit k now) o) s) (slot_of s k))))
registered_is_told s k now n t o is get a =
    leaves s k now n t o Keeps is (keeps s k t get)
    ∙ ap (λ (b : Bool). ToAnswer (run_content t b))
    (observed_among t (max (s.shard_time (slot_of s k % 8)) now) (watch s (slot_of s k)) (registers_asked t a) ∙ ap (is_among t) (sym (get_registers s k now n t o is get a)))

-- ---- cancellation

no_registration : (t : Ticket) → t.observe ≡ Some 1 → is_registration t ≡ false
no_registration t one = ap (λ (x : Option ℕ). has_observe 0 x && (is_first_block t.block && ((meaning_at t).code == 69))) one

pub get_cancels : (s : Seen) (k now n : ℕ) (t : Ticket) (o : Option Emission) → stage s k ≡ ToCommit n t → t.request.method ≡ Get → t.observe ≡ Some 1 → watch (and_then (did (Commit k now) o) s) (slot_of s k) ≡ cancelled t.origin.endpoint t.token.items (watch s (slot_of s k))
get_cancels s k now n t o is get one =
    let m = slot_of s k in
    watched s k now n t o Keeps is (keeps s k t get)
    ∙ (λ i. observers m s.policy.confirm_after (observe_calls_by (no_registration t one i) (has_observe 1 (one i)) (max (s.shard_time (m % 8)) now) t ++ s.calls m))

-- ---- every other commit

none_called : (x : CommitOutcome) (n now serial : ℕ) (t : Ticket) (ws : Around) → is_registration t ≡ false → is_cancellation t ≡ false → (committed x n t now serial ws).calls ≡ []
none_called Keeps n now serial t ws r c = λ i. observe_calls_by (r i) (c i) (max ws.time now) t
none_called Writes n now serial t ws r c = refl
none_called Overtakes n now serial t ws r c = refl
none_called Ends n now serial t ws r c = refl

pub others_call_nothing : (s : Seen) (k now n : ℕ) (t : Ticket) (o : Option Emission) → stage s k ≡ ToCommit n t → (AsksToObserve t → ⊥) → (t.observe ≡ Some 1 → ⊥) → watch (and_then (did (Commit k now) o) s) (slot_of s k) ≡ watch s (slot_of s k)
others_call_nothing s k now n t o is asks one =
    let m = slot_of s k in
    let x = outcome t (slot_at s m) in
    watched s k now n t o x is refl
    ∙ ap (λ (cs : List ObserverCall). observers m s.policy.confirm_after (cs ++ s.calls m)) (none_called x n now (slot_at s m).serial t (around s m) (not_true (is_registration t) (λ e. asks (asked t e))) (not_true (is_cancellation t) (λ e. one (value_is 1 t.observe e))))

-- a commit leaves the observers of another slot unchanged.
pub other_slots_stay : (s : Seen) (k now m : ℕ) (o : Option Emission) → (m ≡ slot_of s k → ⊥) → watch (and_then (did (Commit k now) o) s) m ≡ watch s m
other_slots_stay s k now m o ne = ap (λ (b : Bool). observers m s.policy.confirm_after ((if b then (transition (Commit k now) (inputs s k)).calls else []) ++ s.calls m)) (ne_eqb (slot_of s k) m (λ q. ne (sym q)))
