-- The observers that stay in the list, and the events that remove one.
use Rattle.std.proofs.Common.{◌≡◌, ℕ, ◌<◌, ◌≤◌, List, [], ◌∷◌, ◌++◌, Bool, true, false, Option, Some, None, max, refl, sym, ap, ◌∙◌, subst, ◌⊎◌, inl, inr, ⊎_elim, if◌then◌else◌}
use Rattle.std.specs.Prelude.{◌==◌, ◌&&◌, ◌%◌, nat_eq, nat_lt}
use Rattle.std.specs.Cmp.Lexicographic.{pointwise}
use Rattle.std.proofs.lemmas.Bool.{cases_lt, eq-eqb, eqb-true, lt-ltb}
use Rattle.arrayvec.specs.ArrayVec.{ArrayVec}
use Rattle.coap_msg.specs.declared.types.Emission.{Emission}
use Rattle.coap_msg.specs.declared.types.Endpoint.{Endpoint}
use Rattle.coap_msg.specs.Endpoints.{same_endpoint}
use Rattle.fc_observe.specs.declared.entry.Entry.{Entry as ObserverEntry}
use Rattle.fc_observe.specs.declared.entry.Phase.{Phase}
use Rattle.fc_observe.specs.declared.entry.Phase.TheVariants.{Outstanding}
use Rattle.fc_observe.specs.declared.entry.Turn.{Turn}
use Rattle.fc_observe.specs.Calls.{Acknowledge, Advance, Cancel, End, GiveUp as GiveUpTurn, MarkMissing, NextDue, Notify, ObserverCall, Register, Reset, Tick as TickObservers, after_calls, observers, observers_after}
use Rattle.fc_observe.specs.Entries.{is_entry_of, is_overdue, is_overdue_in, retransmission_in}
use Rattle.fc_observe.specs.Observers.{ObserverList, list_at_time, entry_out}
use Rattle.fc_observe.proofs.Resets.{so_is}
use Rattle.fc_observe.proofs.Staying.{TakesAway, stays_or_goes}
use Rattle.fc_ticket.specs.Registrations.{is_cancellation, is_registration, observe_calls, observe_calls_by, szx_of}
use Rattle.fc_registry.specs.Calls.{is_out_at, mark_missing_calls}
use Rattle.fc_ticket.specs.Runs.{meaning_at}
use Rattle.fc_ticket.specs.Notes.{keeps_observer, note_at, note_calls, serial_told, told_call}
use Rattle.fc_ticket.specs.Tickets.{Present, Ticket}
use Rattle.fc_core.specs.declared.event.Event.{Event}
use Rattle.fc_core.specs.declared.event.Event.TheVariants.{Commit, Due, Note, ShardTick, Signal}
use Rattle.fc_core.specs.History.{Entry, Seen, and_then, around, calls_by, calls_named, due_in, is_place_of, job, overdue_in, inputs, slot_at, stage, watch, at_shard}
use Rattle.fc_core.specs.Laws.{slot_of}
use Rattle.fc_laws.specs.ObserveLaws.{is_held}
use Rattle.fc_core.specs.Transitions.{names, transition}
use Rattle.fc_laws.specs.TurnLaws.{ByAnswer, ByCancellation, ByReset, ByTimeout, IsNoContent, Removes, time_at}
use Rattle.fc_core.proofs.Calling.{CallsBy, NoCall, OfCommit, OfGiveUp, OfNote, OfSnapshot, transition_calls}
use Rattle.fc_laws.proofs.turns.Notices.{found_holds}
use Rattle.fc_laws.proofs.turns.Observing.{value_is}
use Rattle.fc_core.proofs.OnShards.{named_calm}
use Rattle.fc_core.proofs.Places.{place_is}
use Rattle.fc_core.proofs.Watches.{after_append}

-- ---- calls that remove none

module _ (to : Endpoint) (token : List ℕ) where
  one_stays : (c : ObserverCall) (w : ObserverList) → (TakesAway to token c w → ⊥) → is_held to token w ≡ true → is_held to token (observers_after c w) ≡ true
  one_stays c w not some = ⊎_elim (λ (stays : is_held to token (observers_after c w) ≡ true). stays) (λ (goes : TakesAway to token c w). absurd (not goes)) (stays_or_goes to token c w some)

  mark_missing_stays : (out : Bool) (turn : Turn) (present : Option Present) (time : ℕ) (w : ObserverList) → is_held to token w ≡ true → is_held to token (after_calls (mark_missing_calls out turn present ++ Advance time ∷ []) w) ≡ true
  mark_missing_stays true turn None time w some = one_stays (MarkMissing turn) (list_at_time time w) (λ x. x) some
  mark_missing_stays true turn (Some p) time w some = some
  mark_missing_stays false turn present time w some = some

  one_if : (b : Bool) (c : ObserverCall) (w : ObserverList) → (TakesAway to token c w → ⊥) → is_held to token w ≡ true → is_held to token (after_calls (if b then c ∷ [] else []) w) ≡ true
  one_if true c w not some = one_stays c w not some
  one_if false c w not some = some

  -- an observer stays after the calls of a commit, or the commit cancels this observer.
  observed_stays : (time : ℕ) (t : Ticket) (w : ObserverList) (b c : Bool) → is_cancellation t ≡ c → is_held to token w ≡ true → (is_held to token (after_calls (observe_calls_by b c time t) w) ≡ true) ⊎ ((is_cancellation t ≡ true) × ((same_endpoint t.origin.endpoint to && pointwise nat_eq t.token.items token) ≡ true))
  observed_stays time t w true c is some = inl (one_stays (Register time t.origin.endpoint t.token t.request (szx_of t.block) t.serial) w (λ x. x) some)
  observed_stays time t w false true is some = ⊎_elim
      (λ (stays : is_held to token (observers_after (Cancel t.origin.endpoint t.token.items) w) ≡ true). inl stays)
      (λ (goes : TakesAway to token (Cancel t.origin.endpoint t.token.items) w). inr (is, goes))
      (stays_or_goes to token (Cancel t.origin.endpoint t.token.items) w some)
  observed_stays time t w false false is some = inl some

  -- an observer stays after the call of a notification, or its own lease ends without a 2.05
  -- (Content).
  told_stays : (b : Bool) (turn : Turn) (id random time serial : ℕ) (bytes : ArrayVec ℕ) (w : ObserverList) → is_held to token w ≡ true → (is_held to token (observers_after (told_call b turn id random time serial bytes) (list_at_time time w)) ≡ true) ⊎ ((b ≡ false) × ((o : ObserverEntry) × (entry_out turn (list_at_time time w) ≡ Some o) × (is_entry_of to token o ≡ true)))
  told_stays true turn id random time serial bytes w some = inl (one_stays (Notify time turn id serial random bytes) (list_at_time time w) (λ x. x) some)
  told_stays false turn id random time serial bytes w some = ⊎_elim
      (λ (stays : is_held to token (observers_after (End turn) (list_at_time time w)) ≡ true). inl stays)
      (λ (goes : TakesAway to token (End turn) (list_at_time time w)). inr (refl, goes))
      (stays_or_goes to token (End turn) (list_at_time time w) some)

  note_stays : (turn : Turn) (id random time : ℕ) (found : Option Ticket) (sent : Option Emission) (w : ObserverList) → is_held to token w ≡ true → (is_held to token (after_calls (note_calls turn id random time found sent) w) ≡ true) ⊎ ((keeps_observer found ≡ false) × ((o : ObserverEntry) × (entry_out turn (list_at_time time w) ≡ Some o) × (is_entry_of to token o ≡ true)))
  note_stays turn id random time found None w some = inl some
  note_stays turn id random time found (Some e) w some = told_stays (keeps_observer found) turn id random time (serial_told found) e.bytes w some

no_content : (found : Option Ticket) → keeps_observer found ≡ false → IsNoContent found
no_content None not = tt
no_content (Some t) not = λ is. let yes = eq-eqb (meaning_at t).code 69 is in cc (yes, not)

-- ---- a notification that has timed out for the last time

record IsLast (p : Phase) : Type 0 where
  sent_at : ℕ
  timeout : ℕ
  retransmissions : ℕ
  bytes : ArrayVec ℕ
  outstanding : p ≡ Outstanding sent_at timeout retransmissions bytes
  four : 4 ≤ retransmissions

last_by : (e : Emission) (n : ℕ) (b : Bool) → nat_lt n 4 ≡ b → (if b then Some e else None) ≡ None → 4 ≤ n
last_by e n true few none = absurd (cc none)
last_by e n false few none = ⊎_elim (λ (lt : n < 4). let yes = lt-ltb n 4 lt in absurd (cc (yes, few))) (λ (le : 4 ≤ n). le) (cases_lt n 4)

last_in : (now : ℕ) (to : Endpoint) (p : Phase) → is_overdue_in now p ≡ true → retransmission_in to p ≡ None → IsLast p
last_in now to (Outstanding sent_at timeout n bytes) overdue none = record { sent_at = sent_at; timeout = timeout; retransmissions = n; bytes = bytes; outstanding = refl; four = last_by (record { to = to; bytes = bytes }) n (nat_lt n 4) refl none }
last_in now to other overdue none = absurd (cc overdue)

-- ---- an event

module _ (r : Entry) (s : Seen) (n : ℕ) (to : Endpoint) (token : List ℕ) where
  abbrev w : ObserverList
  w = watch s n

  abbrev Stays : List ObserverCall → Type 0
  Stays cs = (is_held to token (after_calls cs w) ≡ true) ⊎ Removes r s n to token

  -- an observer stays after the calls of the event that names a job, or the event removes the
  -- observer.
  by_transition : (k : ℕ) (cs : List ObserverCall) → names r.event ≡ Some k → slot_of s k ≡ n → CallsBy r.event (around s (slot_of s k)) (stage s k) cs → is_held to token w ≡ true → Stays cs
  by_transition k cs named slot (NoCall is) some = inl (subst (λ (l : List ObserverCall). is_held to token (after_calls l w) ≡ true) (sym is) some)
  by_transition k cs named slot (OfSnapshot turn time present t is) some = inl (subst (λ (l : List ObserverCall). is_held to token (after_calls l w) ≡ true) (sym is) (mark_missing_stays to token (is_out_at turn time t) turn present time w some))
  by_transition k cs named slot (OfGiveUp turn time is) some = inl (subst (λ (l : List ObserverCall). is_held to token (after_calls l w) ≡ true) (sym is) (one_stays to token (GiveUpTurn turn time) w (λ x. x) some))
  by_transition k cs named slot (OfCommit j now count time t event stands is) some =
      let same : k ≡ j = cc (sym named ∙ ap names event) in
      subst Stays (sym is) (⊎_elim
      (λ (stays : is_held to token (after_calls (observe_calls time t) w) ≡ true). inl stays)
      (λ (goes : (is_cancellation t ≡ true) × ((same_endpoint t.origin.endpoint to && pointwise nat_eq t.token.items token) ≡ true)). inr (ByCancellation (record { number = k; now = now; count = count; ticket = t; event = event ∙ ap (λ (i : ℕ). Commit i now) (sym same); at = stands; slot = slot; asks = value_is 1 t.observe goes.0; client = goes.1 })))
      (observed_stays to token time t w (is_registration t) (is_cancellation t) refl some))
  by_transition k cs named slot (OfNote j now random id turn found event stands is) some =
      let same : k ≡ j = cc (sym named ∙ ap names event) in
      let time = time_at s k now in
      subst Stays (sym is) (⊎_elim
      (λ (stays : is_held to token (after_calls (note_calls turn id random time found (note_at turn id time found (watch s (slot_of s k)))) w) ≡ true). inl stays)
      (λ (goes : (keeps_observer found ≡ false) × ((o : ObserverEntry) × (entry_out turn (list_at_time time w) ≡ Some o) × (is_entry_of to token o ≡ true))). inr (ByAnswer (record {
        number = k;
        now = now;
        random = random;
        id = id;
        turn = turn;
        found = found;
        entry = goes.1.0;
        event = event ∙ ap (λ (i : ℕ). Note i now random) (sym same);
        at = stands;
        slot = slot;
        out = goes.1.1;
        own = goes.1.2;
        answer = no_content found goes.0;
      })))
      (note_stays to token turn id random time found (note_at turn id time found (watch s (slot_of s k))) w some))

  by_slot : (k : ℕ) (b : Bool) → names r.event ≡ Some k → (slot_of s k == n) ≡ b → is_held to token w ≡ true → Stays (if b then (transition r.event (inputs s k)).calls else [])
  by_slot k true named is some = by_transition k (transition r.event (inputs s k)).calls named (eqb-true (slot_of s k) n is) (transition_calls r.event (job s k) (slot_at s (slot_of s k)) (around s (slot_of s k)) (stage s k)) some
  by_slot k false named is some = inl some

  -- an observer stays after a signal of this shard, or a Reset message removes the observer.
  reset_by : (shard id : ℕ) (from : Endpoint) (b : Bool) → r.event ≡ Signal shard from id true → ((n % 8) == shard) ≡ b → is_held to token w ≡ true → Stays (if b then Reset from id ∷ [] else [])
  reset_by shard id from false event here some = inl some
  reset_by shard id from true event here some = ⊎_elim
      (λ (stays : is_held to token (observers_after (Reset from id) w) ≡ true). inl stays)
      (λ (goes : TakesAway to token (Reset from id) w).
      let last = so_is from id goes.0 goes.3 in
      inr (ByReset (record { shard = shard; id = id; entry = goes.0; event = event ∙ ap (λ (x : Endpoint). Signal shard x id true) (sym last.0); slot = eqb-true (n % 8) shard here; held = goes.1; own = goes.2; last = last.1 })))
      (stays_or_goes to token (Reset from id) w some)

  tick_by : (shard now : ℕ) (b : Bool) → r.event ≡ ShardTick shard now → is_place_of (overdue_in s shard (max (s.shard_time shard) now)) shard n ≡ b → is_held to token w ≡ true → Stays (if b then TickObservers (max (s.shard_time shard) now) ∷ [] else [])
  tick_by shard now false event here some = inl some
  tick_by shard now true event here some =
      let at = max (s.shard_time shard) now in
      let place = place_is (overdue_in s shard at) shard n here in
      ⊎_elim
      (λ (stays : is_held to token (observers_after (TickObservers at) w) ≡ true). inl stays)
      (λ (goes : TakesAway to token (TickObservers at) w).
      let overdue = (found_holds (λ (o : ObserverEntry). Unit {0}) (is_overdue (max w.time at)) w.held goes.0 (λ k d lt. tt) goes.1).1 in
      let last = last_in (max w.time at) goes.0.endpoint goes.0.phase overdue goes.3 in
      inr (ByTimeout (record {
        shard = shard;
        now = now;
        place = place.0;
        entry = goes.0;
        sent_at = last.sent_at;
        timeout = last.timeout;
        retransmissions = last.retransmissions;
        bytes = last.bytes;
        event = event;
        slot = place.2;
        first = place.1;
        overdue = goes.1;
        own = goes.2;
        outstanding = last.outstanding;
        four = last.four;
      })))
      (stays_or_goes to token (TickObservers at) w some)

  by_shard : (d : Event) → r.event ≡ d → is_held to token w ≡ true → Stays (calls_by (at_shard d) s n)
  by_shard (Due shard now) event some =
      let at = max (s.shard_time shard) now in
      inl (one_if to token (is_place_of (due_in s shard at) shard n) (NextDue at (slot_at s n).notify_serial) w (λ x. x) some)
  by_shard (Signal shard from id true) event some = reset_by shard id from ((n % 8) == shard) event refl some
  by_shard (Signal shard from id false) event some = inl (one_if to token ((n % 8) == shard) (Acknowledge from id) w (λ x. x) some)
  by_shard (ShardTick shard now) event some = tick_by shard now (is_place_of (overdue_in s shard (max (s.shard_time shard) now)) shard n) event refl some
  by_shard other event some = inl some

  -- if two lists are equal, an observer that stays in the second or is removed stays in the first
  -- or is removed.
  stays_as : (u v : ObserverList) → u ≡ v → (is_held to token v ≡ true) ⊎ Removes r s n to token → (is_held to token u ≡ true) ⊎ Removes r s n to token
  stays_as u v is some = subst (λ (x : ObserverList). (is_held to token x ≡ true) ⊎ Removes r s n to token) (sym is) some

  by_name : (o : Option ℕ) → names r.event ≡ o → is_held to token w ≡ true → (is_held to token (watch (and_then r s) n) ≡ true) ⊎ Removes r s n to token
  by_name None named some = stays_as (watch (and_then r s) n) (after_calls (calls_by (at_shard r.event) s n) w)
      ((λ i. observers n s.policy.confirm_after (calls_named (named i) r.event s n ++ (calls_by (at_shard r.event) s n ++ s.calls n))) ∙ after_append n s.policy.confirm_after (calls_by (at_shard r.event) s n) (s.calls n))
      (by_shard r.event refl some)
  by_name (Some k) named some =
      let calls = calls_named (Some k) r.event s n in
      stays_as (watch (and_then r s) n) (after_calls calls w)
      ((λ i. observers n s.policy.confirm_after (calls_named (named i) r.event s n ++ (calls_by (named_calm r.event k named i) s n ++ s.calls n))) ∙ after_append n s.policy.confirm_after calls (s.calls n))
      (by_slot k (slot_of s k == n) named refl some)

  pub stays_or_removed : is_held to token w ≡ true → (is_held to token (watch (and_then r s) n) ≡ true) ⊎ Removes r s n to token
  stays_or_removed some = by_name (names r.event) refl some
