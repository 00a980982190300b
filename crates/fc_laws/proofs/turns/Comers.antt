-- The clients that become observers of a slot, and the events that register them.
use Rattle.std.proofs.Common.{◌≡◌, ℕ, List, [], ◌∷◌, ◌++◌, Bool, true, false, Option, Some, None, max, refl, sym, ap, ◌∙◌, subst, ◌⊎◌, inl, inr, ⊎_elim, if◌then◌else◌}
use Rattle.std.specs.Prelude.{◌==◌, ◌&&◌, ◌%◌, nat_eq}
use Rattle.std.specs.Cmp.Lexicographic.{pointwise}
use Rattle.std.proofs.lemmas.Bool.{cases_Bool, eqb-true}
use Rattle.arrayvec.specs.ArrayVec.{ArrayVec}
use Rattle.coap_msg.specs.declared.types.Emission.{Emission}
use Rattle.coap_msg.specs.declared.types.Endpoint.{Endpoint}
use Rattle.coap_msg.specs.Endpoints.{same_endpoint}
use Rattle.fc_observe.specs.Calls.{Advance, ObserverCall, NextDue, Tick as TickObservers, after_calls, is_registration_of}
use Rattle.fc_observe.specs.Laws.{RegistersNone}
use Rattle.fc_observe.proofs.Hearing.{stays_gone}
use Rattle.fc_observe.specs.declared.entry.Turn.{Turn}
use Rattle.fc_ticket.specs.Registrations.{is_cancellation, observe_calls, observe_calls_by, is_registration}
use Rattle.fc_registry.specs.Calls.{is_out_at, mark_missing_calls}
use Rattle.fc_ticket.specs.Notes.{keeps_observer, note_at, note_calls, serial_told, told_call}
use Rattle.fc_ticket.specs.Tickets.{Present, Ticket}
use Rattle.fc_registry.specs.Watches.{signal_call}
use Rattle.fc_core.specs.declared.event.Event.{Event}
use Rattle.fc_core.specs.declared.event.Event.TheVariants.{Commit, Signal, ShardTick, Due}
use Rattle.fc_core.specs.History.{Entry, History, Then, Seen, seen, and_then, around, calls_named, due_in, is_place_of, job, overdue_in, inputs, slot_at, stage, watch, at_shard, calls_by}
use Rattle.fc_core.specs.Laws.{followed_by, slot_of}
use Rattle.fc_laws.specs.ObserveLaws.{NoneRegisters, Registers, is_held}
use Rattle.fc_core.specs.Transitions.{names, transition}
use Rattle.fc_core.proofs.Calling.{CallsBy, NoCall, OfCommit, OfGiveUp, OfNote, OfSnapshot, transition_calls}
use Rattle.fc_laws.proofs.turns.Observing.{asked}
use Rattle.fc_core.proofs.Watches.{after_append}

-- ---- the calls of an event of a shard

signal_registers : (reset : Bool) (from to : Endpoint) (id : ℕ) (token : List ℕ) → is_registration_of to token (signal_call reset from id) ≡ false
signal_registers true from to id token = refl
signal_registers false from to id token = refl

none_if : (b : Bool) (c : ObserverCall) (to : Endpoint) (token : List ℕ) → is_registration_of to token c ≡ false → RegistersNone to token (if b then c ∷ [] else [])
none_if true c to token is = (is, tt)
none_if false c to token is = tt

mark_missing_registers : (out : Bool) (turn : Turn) (present : Option Present) (time : ℕ) (to : Endpoint) (token : List ℕ) → RegistersNone to token (mark_missing_calls out turn present ++ Advance time ∷ [])
mark_missing_registers true turn None time to token = (refl, (refl, tt))
mark_missing_registers true turn (Some p) time to token = (refl, tt)
mark_missing_registers false turn present time to token = (refl, tt)

told_registers : (b : Bool) (turn : Turn) (id random time serial : ℕ) (bytes : ArrayVec ℕ) (to : Endpoint) (token : List ℕ) → is_registration_of to token (told_call b turn id random time serial bytes) ≡ false
told_registers true turn id random time serial bytes to token = refl
told_registers false turn id random time serial bytes to token = refl

note_registers : (turn : Turn) (id random time : ℕ) (found : Option Ticket) (sent : Option Emission) (to : Endpoint) (token : List ℕ) → RegistersNone to token (note_calls turn id random time found sent)
note_registers turn id random time found None to token = (refl, tt)
note_registers turn id random time found (Some e) to token = (told_registers (keeps_observer found) turn id random time (serial_told found) e.bytes to token, (refl, tt))

pub none_in : (e : Event) (s : Seen) (n : ℕ) (to : Endpoint) (token : List ℕ) → RegistersNone to token (calls_by (at_shard e) s n)
none_in (Due shard now) s n to token =
    let at = max (s.shard_time shard) now in
    none_if (is_place_of (due_in s shard at) shard n) (NextDue at (slot_at s n).notify_serial) to token refl
none_in (Signal shard from id reset) s n to token = none_if ((n % 8) == shard) (signal_call reset from id) to token (signal_registers reset from to id token)
none_in (ShardTick shard now) s n to token =
    let at = max (s.shard_time shard) now in
    none_if (is_place_of (overdue_in s shard at) shard n) (TickObservers at) to token refl
none_in other s n to token = tt

-- ---- registrations

-- the calls of a commit register this client, or they don't.
module _ (to : Endpoint) (token : List ℕ) (time : ℕ) (t : Ticket) where
  abbrev is_client : Bool
  is_client = same_endpoint t.origin.endpoint to && pointwise nat_eq t.token.items token

  by_tests : (b c d : Bool) → is_registration t ≡ b → is_client ≡ d → RegistersNone to token (observe_calls_by b c time t) ⊎ ((is_registration t ≡ true) × (is_client ≡ true))
  by_tests true c true r own = inr (r, own)
  by_tests true c false r own = inl (own, tt)
  by_tests false true d r own = inl (refl, tt)
  by_tests false false d r own = inl tt

  registers_or_not : RegistersNone to token (observe_calls time t) ⊎ ((is_registration t ≡ true) × (is_client ≡ true))
  registers_or_not = subst (λ (b : Bool). RegistersNone to token (observe_calls_by b (is_cancellation t) time t) ⊎ ((is_registration t ≡ true) × (is_client ≡ true))) refl (by_tests (is_registration t) (is_cancellation t) is_client refl refl)

module _ (r : Entry) (s : Seen) (n : ℕ) (to : Endpoint) (token : List ℕ) where
  -- if the calls of the event that names a job register this client, the event is the commit of the
  -- client's GET.
  by_transition : (k : ℕ) (cs : List ObserverCall) → names r.event ≡ Some k → slot_of s k ≡ n → CallsBy r.event (around s (slot_of s k)) (stage s k) cs → RegistersNone to token cs ⊎ Registers r s n to token
  by_transition k cs named slot (NoCall is) = inl (subst (RegistersNone to token) (sym is) tt)
  by_transition k cs named slot (OfSnapshot turn time present t is) = inl (subst (RegistersNone to token) (sym is) (mark_missing_registers (is_out_at turn time t) turn present time to token))
  by_transition k cs named slot (OfNote j now random id turn found event stands is) =
      let time = max (around s (slot_of s k)).time now in
      inl (subst (RegistersNone to token) (sym is) (note_registers turn id random time found (note_at turn id time found (around s (slot_of s k)).watch) to token))
  by_transition k cs named slot (OfGiveUp turn time is) = inl (subst (RegistersNone to token) (sym is) (refl, tt))
  by_transition k cs named slot (OfCommit j now count time t event stands is) =
      let same : k ≡ j = cc (sym named ∙ ap names event) in
      ⊎_elim
      (λ (none : RegistersNone to token (observe_calls time t)). inl (subst (RegistersNone to token) (sym is) none))
      (λ (own : (is_registration t ≡ true) × (is_client to token time t ≡ true)). inr (record { number = k; now = now; count = count; ticket = t; event = event ∙ ap (λ (i : ℕ). Commit i now) (sym same); at = stands; slot = slot; asks = asked t own.0; client = own.1 }))
      (registers_or_not to token time t)

  by_slot : (k : ℕ) (b : Bool) → names r.event ≡ Some k → (slot_of s k == n) ≡ b → RegistersNone to token (if b then (transition r.event (inputs s k)).calls else []) ⊎ Registers r s n to token
  by_slot k true named is = by_transition k (transition r.event (inputs s k)).calls named (eqb-true (slot_of s k) n is) (transition_calls r.event (job s k) (slot_at s (slot_of s k)) (around s (slot_of s k)) (stage s k))
  by_slot k false named is = inl tt

  by_name : (o : Option ℕ) → names r.event ≡ o → RegistersNone to token (calls_named o r.event s n) ⊎ Registers r s n to token
  by_name None named = inl tt
  by_name (Some k) named = by_slot k (slot_of s k == n) named refl

  -- an event that doesn't register this client makes no call that registers it.
  pub registers_none : (Registers r s n to token → ⊥) → RegistersNone to token (calls_named (names r.event) r.event s n)
  registers_none not = ⊎_elim
      (λ (none : RegistersNone to token (calls_named (names r.event) r.event s n)). none)
      (λ (own : Registers r s n to token). absurd (not own))
      (by_name (names r.event) refl)

  -- if the event's calls don't register an absent client, the client remains absent.
  stays_away : RegistersNone to token (calls_named (names r.event) r.event s n) → is_held to token (watch s n) ≡ false → is_held to token (watch (and_then r s) n) ≡ false
  stays_away none away =
      let named = calls_named (names r.event) r.event s n in
      let of_shard = calls_by (at_shard r.event) s n in
      let before = stays_gone to token of_shard (watch s n) (none_in r.event s n to token) away in
      ap (is_held to token) (after_append n s.policy.confirm_after named (of_shard ++ s.calls n) ∙ ap (after_calls named) (after_append n s.policy.confirm_after of_shard (s.calls n)))
      ∙ stays_gone to token named (after_calls of_shard (watch s n)) none before

  pub come_by_commits : is_held to token (watch (and_then r s) n) ≡ true → (is_held to token (watch s n) ≡ true) ⊎ Registers r s n to token
  come_by_commits there = ⊎_elim
      (λ (was : is_held to token (watch s n) ≡ true). inl was)
      (λ (away : is_held to token (watch s n) ≡ false). ⊎_elim
      (λ (none : RegistersNone to token (calls_named (names r.event) r.event s n)). absurd (cc (there, stays_away none away)))
      (λ (own : Registers r s n to token). inr own)
      (by_name (names r.event) refl))
      (cases_Bool (is_held to token (watch s n)))

-- a flag that isn't true is false.
stays_by : (b : Bool) → (b ≡ true → ⊥) → b ≡ false
stays_by true not = absurd (not refl)
stays_by false not = refl

-- an absent client remains absent after an event that doesn't register it.
away_next : (r : Entry) (s : Seen) (n : ℕ) (to : Endpoint) (token : List ℕ) → (Registers r s n to token → ⊥) → is_held to token (watch s n) ≡ false → is_held to token (watch (and_then r s) n) ≡ false
away_next r s n to token not away = stays_by (is_held to token (watch (and_then r s) n)) (λ there. ⊎_elim (λ (was : is_held to token (watch s n) ≡ true). absurd (cc (was, away))) not (come_by_commits r s n to token there))

-- a client that isn't among the observers remains absent until it registers.
pub away_later : (rs : List Entry) (h : History) (n : ℕ) (to : Endpoint) (token : List ℕ) → NoneRegisters h rs n to token → is_held to token (watch (seen h) n) ≡ false → is_held to token (watch (seen (followed_by h rs)) n) ≡ false
unfolding seen
away_later [] h n to token none away = away
away_later (r ∷ rs) h n to token none away = away_later rs (Then h r) n to token none.1 (away_next r (seen h) n to token none.0 away)
