-- The serials that one observer is sent increase, in every history.
use Rattle.std.proofs.Common.{◌≡◌, ℕ, ◌<◌, ◌≤◌, List, [], ◌∷◌, ◌++◌, Bool, true, false, Option, Some, None, max, refl, sym, ap, ◌∙◌, subst, arith, if◌then◌else◌}
use Rattle.std.specs.Prelude.{◌==◌, ◌%◌, is_some}
use Rattle.std.specs.List.{All}
use Rattle.std.proofs.lemmas.Bool.{eq-eqb, eqb-true}
use Rattle.coap_msg.specs.declared.types.Emission.{Emission}
use Rattle.coap_msg.specs.declared.types.Endpoint.{Endpoint}
use Rattle.fc_observe.specs.declared.entry.Entry.{Entry as ObserverEntry}
use Rattle.fc_observe.specs.declared.entry.Turn.{Turn}
use Rattle.fc_observe.specs.Calls.{Advance, NextDue, ObserverCall, Tick as TickObservers, observers}
use Rattle.fc_observe.specs.Entries.{is_entry_of}
use Rattle.fc_observe.specs.Laws.{RegistersNone, noticed_for}
use Rattle.fc_observe.specs.Observers.{ObserverList, list_at_time, entry_out, is_out}
use Rattle.fc_observe.proofs.Rising.{Above, AreAbove, SentFrom, calls_from, ended_from, notified_from}
use Rattle.fc_observe.proofs.Serials.{sent_above}
use Rattle.fc_ticket.specs.Registrations.{is_cancellation, is_registration, observe_calls_by}
use Rattle.fc_registry.specs.Calls.{is_out_at, mark_missing_calls}
use Rattle.fc_ticket.specs.Notes.{keeps_observer, note_at, note_calls, told_call}
use Rattle.fc_ticket.specs.Tickets.{Present, Ticket}
use Rattle.fc_registry.specs.Watches.{signal_call}
use Rattle.fc_core.specs.declared.event.Event.{Event}
use Rattle.fc_core.specs.declared.event.Event.TheVariants.{Due, Note, ShardTick, Signal}
use Rattle.fc_core.specs.Stage.{Stage}
use Rattle.fc_core.specs.Stage.{ToTell}
use Rattle.fc_core.specs.TurnStage as turns
use Rattle.fc_core.specs.History.{Entry, History, Then, Seen, seen, and_then, around, calls_by, calls_named, did, due_in, is_place_of, job, overdue_in, inputs, slot_at, stage, watch, at_shard}
use Rattle.fc_core.specs.Laws.{followed_by, slot_of}
use Rattle.fc_laws.specs.ObserveLaws.{NoneRegisters, Registers}
use Rattle.fc_core.specs.Transitions.{names, transition}
use Rattle.fc_laws.specs.TurnLaws.{time_at}
use Rattle.fc_core.proofs.Calling.{CallsBy, NoCall, OfCommit, OfGiveUp, OfNote, OfSnapshot, transition_calls}
use Rattle.fc_laws.proofs.turns.Comers.{none_in, registers_none}
use Rattle.fc_laws.proofs.turns.Notices.{found_holds, note_where_out, sent_above_last}
use Rattle.fc_core.proofs.OnShards.{named_calm}
use Rattle.fc_laws.proofs.turns.Told.{found_noticed}
use Rattle.fc_laws.proofs.turns.Turning.{at_stage}
use Rattle.fc_core.proofs.Watches.{after_append}

-- ---- the calls of each event

observed_above : (b c : Bool) (m : ℕ) (t : Ticket) (w : ObserverList) → AreAbove (observe_calls_by b c m t) w
observed_above true c m t w = (λ k d lt. tt, tt)
observed_above false true m t w = (λ k d lt. tt, tt)
observed_above false false m t w = tt

mark_missing_above : (out : Bool) (turn : Turn) (present : Option Present) (m : ℕ) (w : ObserverList) → AreAbove (mark_missing_calls out turn present ++ Advance m ∷ []) w
mark_missing_above true turn None m w = (λ k d lt. tt, (λ k d lt. tt, tt))
mark_missing_above true turn (Some p) m w = (λ k d lt. tt, tt)
mark_missing_above false turn present m w = (λ k d lt. tt, tt)

-- the call of a notification sends its observer a serial that is at least the serial for which the
-- lease was granted.
told_above : (b : Bool) (turn : Turn) (id random m serial n confirm_after : ℕ) (e : Emission) (calls : List ObserverCall) → noticed_for turn.number n confirm_after calls ≤ serial → All (Above (told_call b turn id random m serial e.bytes) (list_at_time m (observers n confirm_after calls))) (observers n confirm_after calls).held
told_above true turn id random m serial n confirm_after e calls le = sent_above n confirm_after m turn serial (Advance m ∷ calls) le
told_above false turn id random m serial n confirm_after e calls le = λ k d lt. tt

note_above : (turn : Turn) (id random m n confirm_after : ℕ) (found : Option Ticket) (sent : Option Emission) (calls : List ObserverCall) → ((t : Ticket) → found ≡ Some t → noticed_for turn.number n confirm_after calls ≤ t.serial) → AreAbove (note_calls turn id random m found sent) (observers n confirm_after calls)
note_above turn id random m n confirm_after found None calls le = (λ k d lt. tt, tt)
note_above turn id random m n confirm_after None (Some e) calls le = (λ k d lt. tt, (λ k d lt. tt, tt))
note_above turn id random m n confirm_after (Some t) (Some e) calls le = (told_above (keeps_observer (Some t)) turn id random m t.serial n confirm_after e calls (le t refl), (λ k d lt. tt, tt))

one_above : (b : Bool) (c : ObserverCall) (w : ObserverList) → AreAbove (c ∷ []) w → AreAbove (if b then c ∷ [] else []) w
one_above true c w above = above
one_above false c w above = tt

signal_above : (reset : Bool) (to : Endpoint) (id : ℕ) (w : ObserverList) → AreAbove (signal_call reset to id ∷ []) w
signal_above true to id w = (λ k d lt. tt, tt)
signal_above false to id w = (λ k d lt. tt, tt)

shard_above : (e : Event) (s : Seen) (n : ℕ) (w : ObserverList) → AreAbove (calls_by (at_shard e) s n) w
shard_above (Due shard now) s n w =
    let m = max (s.shard_time shard) now in
    one_above (is_place_of (due_in s shard m) shard n) (NextDue m (slot_at s n).notify_serial) w (λ k d lt. tt, tt)
shard_above (Signal shard from id reset) s n w = one_above ((n % 8) == shard) (signal_call reset from id) w (signal_above reset from id w)
shard_above (ShardTick shard now) s n w =
    let m = max (s.shard_time shard) now in
    one_above (is_place_of (overdue_in s shard m) shard n) (TickObservers m) w (λ k d lt. tt, tt)
shard_above other s n w = tt

module _ (h : History) (r : Entry) (n : ℕ) where
  abbrev s : Seen
  s = seen h

  transition_above : (k : ℕ) (cs : List ObserverCall) → names r.event ≡ Some k → slot_of s k ≡ n → CallsBy r.event (around s (slot_of s k)) (stage s k) cs → AreAbove cs (observers n s.policy.confirm_after (s.calls n))
  transition_above k cs named slot (NoCall is) = subst (λ (l : List ObserverCall). AreAbove l (watch s n)) (sym is) tt
  transition_above k cs named slot (OfCommit j now count m t event stands is) = subst (λ (l : List ObserverCall). AreAbove l (watch s n)) (sym is) (observed_above (is_registration t) (is_cancellation t) m t (watch s n))
  transition_above k cs named slot (OfSnapshot turn m present t is) = subst (λ (l : List ObserverCall). AreAbove l (watch s n)) (sym is) (mark_missing_above (is_out_at turn m t) turn present m (watch s n))
  transition_above k cs named slot (OfGiveUp turn m is) = subst (λ (l : List ObserverCall). AreAbove l (watch s n)) (sym is) (λ k d lt. tt, tt)
  transition_above k cs named slot (OfNote j now random id turn found event stands is) =
      let m = time_at s k now in
      subst (λ (l : List ObserverCall). AreAbove l (watch s n)) (sym is)
      (note_above turn id random m n s.policy.confirm_after found (note_at turn id m found (watch s (slot_of s k))) (s.calls n)
      (λ t same. subst (λ (i : ℕ). noticed_for turn.number i s.policy.confirm_after (s.calls i) ≤ t.serial) slot (found_noticed h k id turn t (stands ∙ ap (λ (x : Option Ticket). ToTell turn (turns.ToNote x id)) same))))

  slot_above : (k : ℕ) (b : Bool) → names r.event ≡ Some k → (slot_of s k == n) ≡ b → AreAbove (if b then (transition r.event (inputs s k)).calls else []) (watch s n)
  slot_above k true named is = transition_above k (transition r.event (inputs s k)).calls named (eqb-true (slot_of s k) n is) (transition_calls r.event (job s k) (slot_at s (slot_of s k)) (around s (slot_of s k)) (stage s k))
  slot_above k false named is = tt

  -- an event that names a job makes no call of its shard, so the job's calls are above the serials
  -- that were sent.
  named_above : (o : Option ℕ) → names r.event ≡ o → AreAbove (calls_named o r.event s n) (watch s n)
  named_above None named = tt
  named_above (Some k) named = slot_above k (slot_of s k == n) named refl

-- ---- later events

module _ (n m : ℕ) (to : Endpoint) (token : List ℕ) where
  module _ (h : History) (r : Entry) (not : Registers r (seen h) n to token → ⊥) (from : All (SentFrom m to token) (watch (seen h) n).held) where
    abbrev e : Event
    e = r.event

    abbrev of_shard : List ObserverCall
    of_shard = calls_by (at_shard e) (seen h) n

    from_by : (o : Option ℕ) → names e ≡ o → All (SentFrom m to token) (watch (and_then r (seen h)) n).held
    from_by None named =
        subst (λ (t : ObserverList). All (SentFrom m to token) t.held)
        (sym ((λ i. observers n (seen h).policy.confirm_after (calls_named (named i) e (seen h) n ++ (of_shard ++ (seen h).calls n))) ∙ after_append n (seen h).policy.confirm_after of_shard ((seen h).calls n)))
        (calls_from m to token of_shard (watch (seen h) n) (none_in e (seen h) n to token) (shard_above e (seen h) n (watch (seen h) n)) from)
    from_by (Some k) named =
        let calls = calls_named (Some k) e (seen h) n in
        let none : RegistersNone to token calls = subst (λ (o : Option ℕ). RegistersNone to token (calls_named o e (seen h) n)) named (registers_none r (seen h) n to token not) in
        subst (λ (t : ObserverList). All (SentFrom m to token) t.held)
        (sym ((λ i. observers n (seen h).policy.confirm_after (calls_named (named i) e (seen h) n ++ (calls_by (named_calm e k named i) (seen h) n ++ (seen h).calls n))) ∙ after_append n (seen h).policy.confirm_after calls ((seen h).calls n)))
        (calls_from m to token calls (watch (seen h) n) none (named_above h r n (Some k) named) from)

    from_next : All (SentFrom m to token) (watch (and_then r (seen h)) n).held
    from_next = from_by (names e) refl

  from_later : (rs : List Entry) (h : History) → NoneRegisters h rs n to token → All (SentFrom m to token) (watch (seen h) n).held → All (SentFrom m to token) (watch (seen (followed_by h rs)) n).held
  unfolding seen
  from_later [] h none from = from
  from_later (r ∷ rs) h none from = from_later rs (Then h r) none.1 (from_next h r none.0 from)

-- ---- the notification

module _ (h : History) (k now random id : ℕ) (turn : Turn) (t : Ticket) (o : ObserverEntry) (to : Endpoint) (token : List ℕ) (own : is_entry_of to token o ≡ true) (is : stage (seen h) k ≡ ToTell turn (turns.ToNote (Some t) id)) (out : entry_out turn (list_at_time (time_at (seen h) k now) (watch (seen h) (slot_of (seen h) k))) ≡ Some o) where
  abbrev n : ℕ
  n = slot_of (seen h) k

  abbrev time : ℕ
  time = time_at (seen h) k now

  abbrev confirm_after : ℕ
  confirm_after = (seen h).policy.confirm_after

  abbrev calls : List ObserverCall
  calls = (seen h).calls n

  abbrev sent : Option Emission
  sent = note_at turn id time (Some t) (watch (seen h) n)

  -- the lease is still active after the time is passed to the observers, once or twice.
  out_again : entry_out turn (list_at_time time (observers n confirm_after (Advance time ∷ calls))) ≡ Some o
  out_again =
      let w = watch (seen h) n in
      let same : max (max w.time time) time ≡ max w.time time = omega arith in
      ap (λ (x : ℕ). entry_out turn (record w { time = x })) same ∙ out

  told_from : (b : Bool) (e : Emission) → All (SentFrom t.serial to token) (observers n confirm_after (told_call b turn id random time t.serial e.bytes ∷ Advance time ∷ calls)).held
  told_from true e = notified_from n confirm_after turn (Advance time ∷ calls) o to token own time id t.serial random e.bytes out_again
  told_from false e = ended_from n confirm_after turn (Advance time ∷ calls) o to token own t.serial out

  note_from : (x : Option Emission) → is_some x ≡ true → All (SentFrom t.serial to token) (observers n confirm_after (note_calls turn id random time (Some t) x ++ calls)).held
  note_from None some = absurd (cc some)
  note_from (Some e) some = told_from (keeps_observer (Some t)) e

  noted_from : (emitted : Option Emission) → All (SentFrom t.serial to token) (watch (and_then (did (Note k now random) emitted) (seen h)) n).held
  noted_from emitted =
      let some : is_some sent ≡ true = note_where_out h k now id turn (Some t) is ∙ ap (λ (x : Option ObserverEntry). is_some x) out in
      subst (λ (w : ObserverList). All (SentFrom t.serial to token) w.held)
      (sym (ap (λ (b : Bool). observers n confirm_after ((if b then (transition (Note k now random) (inputs (seen h) k)).calls else []) ++ calls)) (eq-eqb n n refl)
      ∙ ap (λ (st : Stage). observers n confirm_after ((transition (Note k now random) (at_stage (seen h) k st)).calls ++ calls)) is))
      (note_from sent some)

  noted_seen : (emitted : Option Emission) → All (SentFrom t.serial to token) (watch (seen (Then h (did (Note k now random) emitted))) n).held
  unfolding seen
  noted_seen emitted = noted_from emitted

  -- a later notification to the same observer has a greater serial.
  pub serials_climb : (rs : List Entry) (g : History) (j next other : ℕ) (next_turn : Turn) (u : Ticket) (x : ObserverEntry) (emitted : Option Emission) → NoneRegisters (Then h (did (Note k now random) emitted)) rs n to token → g ≡ followed_by (Then h (did (Note k now random) emitted)) rs → stage (seen g) j ≡ ToTell next_turn (turns.ToNote (Some u) other) → slot_of (seen g) j ≡ n → entry_out next_turn (list_at_time next (watch (seen g) n)) ≡ Some x → is_entry_of to token x ≡ true → t.serial < u.serial
  serials_climb rs g j next other next_turn u x emitted none same is_next slot out_next own_next =
      let from = subst (λ (y : History). All (SentFrom t.serial to token) (watch (seen y) n).held) (sym same) (from_later n t.serial to token rs (Then h (did (Note k now random) emitted)) none (noted_seen emitted)) in
      let le = (found_holds (SentFrom t.serial to token) (is_out next_turn (list_at_time next (watch (seen g) n))) (watch (seen g) n).held x from out_next).0 own_next in
      let there = ap (λ (i : ℕ). entry_out next_turn (list_at_time next (watch (seen g) i))) slot ∙ out_next in
      let lt = sent_above_last g j next other next_turn u x is_next there in
      omega (arith, le, lt)
