-- The time of a slot's observers is at most that of their shard.
use Rattle.std.proofs.Common.{◌≡◌, ℕ, ◌+◌, ◌*◌, ◌%◌, ◌<◌, ◌≤◌, List, [], ◌∷◌, ◌++◌, Bool, true, false, Option, Some, None, max, refl, sym, ap, ◌∙◌, subst, arith, if◌then◌else◌}
use Rattle.std.specs.Prelude.{◌==◌, ◌&&◌, nat_lt}
use Rattle.std.proofs.lemmas.Bool.{and_from, eq-eqb, eqb-true, lt-ltb, ltb-true}
use Rattle.std.proofs.lemmas.Nat.{mod-mul-add}
use Rattle.arrayvec.specs.ArrayVec.{ArrayVec}
use Rattle.coap_msg.specs.declared.types.Emission.{Emission}
use Rattle.coap_msg.specs.declared.types.Endpoint.{Endpoint}
use Rattle.fc_observe.specs.declared.entry.Turn.{Turn}
use Rattle.fc_observe.specs.Calls.{Advance, GiveUp as GiveUpTurn, NextDue, Notify, ObserverCall, Register, Tick as TickObservers, after_calls, observers_after}
use Rattle.fc_observe.specs.Observers.{ObserverList, list_at_time, gives_turn, turn_given_by}
use Rattle.fc_registry.specs.declared.commit.CommitOutcome.{CommitOutcome}
use Rattle.fc_registry.specs.declared.commit.CommitOutcome.TheVariants.{Writes, Keeps, Overtakes, Ends}
use Rattle.fc_ticket.specs.declared.job.Job.{Job}
use Rattle.fc_ticket.specs.Registrations.{is_cancellation, is_registration, observe_calls_by}
use Rattle.fc_registry.specs.Calls.{is_out_at, mark_missing_calls, outcome}
use Rattle.fc_ticket.specs.Notes.{keeps_observer, note_at, note_calls, serial_told, told_call}
use Rattle.fc_ticket.specs.Tickets.{Present, Ticket}
use Rattle.fc_registry.specs.Slots.{Slot}
use Rattle.fc_registry.specs.Watches.{place_from, signal_call}
use Rattle.fc_core.specs.declared.event.Event.{Event}
use Rattle.fc_core.specs.declared.event.Event.TheVariants.{Due, ShardTick, Signal}
use Rattle.fc_core.specs.Stage.{Stage}
use Rattle.fc_core.specs.Stage.{ToInstall}
use Rattle.fc_core.specs.History.{Entry, History, BeginsWith, Then, Seen, seen, and_then, around, calls_named, due_in, is_due_at, is_overdue_at, is_place_of, job, overdue_in, inputs, shard_time_after, slot_at, stage, watch, at_shard, hands_by, calls_by}
use Rattle.fc_core.specs.Laws.{slot_of}
use Rattle.fc_core.specs.Transitions.{Around, Inputs, handed, names, transition}
use Rattle.fc_laws.specs.TurnLaws.{time_at}
use Rattle.fc_core.proofs.ByStep.{Step, by_effect, effect_by, committed}
use Rattle.fc_core.proofs.ByStep as steps
use Rattle.fc_core.proofs.Calling.{verified_calls}
use Rattle.fc_core.proofs.Lists.{Each}
use Rattle.fc_core.proofs.Places.{place_is}
use Rattle.fc_core.proofs.Watches.{after_append}

-- ---- a call

-- the time that the call passes is at most this time.
abbrev ReachesTo : ℕ → ObserverCall → Type 0
ReachesTo m (Advance now) = now ≤ m
ReachesTo m (Register now to token request szx serial) = now ≤ m
ReachesTo m (NextDue now notify_serial) = now ≤ m
ReachesTo m (Notify now turn id serial random bytes) = now ≤ m
ReachesTo m (GiveUpTurn turn now) = now ≤ m
ReachesTo m (TickObservers now) = now ≤ m
ReachesTo m other = Unit {0}

given_time : (notify_serial : ℕ) (t : ObserverList) (b : Bool) → (turn_given_by b notify_serial t).time ≡ t.time
given_time notify_serial t true = refl
given_time notify_serial t false = refl

call_reaches : (m : ℕ) (c : ObserverCall) (t : ObserverList) → ReachesTo m c → t.time ≤ m → (observers_after c t).time ≤ m
call_reaches m (Advance now) t le before = omega (arith, le, before)
call_reaches m (Register now to token request szx serial) t le before = omega (arith, le, before)
call_reaches m (NextDue now notify_serial) t le before = let same = given_time notify_serial (list_at_time now t) (gives_turn notify_serial (list_at_time now t)) in omega (arith, le, before, same)
call_reaches m (Notify now turn id serial random bytes) t le before = omega (arith, le, before)
call_reaches m (GiveUpTurn turn now) t le before = omega (arith, le, before)
call_reaches m (TickObservers now) t le before = omega (arith, le, before)
call_reaches m other t le before = before

calls_reach : (m : ℕ) (cs : List ObserverCall) (t : ObserverList) → Each (ReachesTo m) cs → t.time ≤ m → (after_calls cs t).time ≤ m
calls_reach m [] t each before = before
calls_reach m (c ∷ cs) t each before = call_reaches m c (after_calls cs t) each.0 (calls_reach m cs t each.1 before)

reaches_later : (m later : ℕ) (c : ObserverCall) → m ≤ later → ReachesTo m c → ReachesTo later c
reaches_later m later (Advance now) rises le = omega (arith, rises, le)
reaches_later m later (Register now to token request szx serial) rises le = omega (arith, rises, le)
reaches_later m later (NextDue now notify_serial) rises le = omega (arith, rises, le)
reaches_later m later (Notify now turn id serial random bytes) rises le = omega (arith, rises, le)
reaches_later m later (GiveUpTurn turn now) rises le = omega (arith, rises, le)
reaches_later m later (TickObservers now) rises le = omega (arith, rises, le)
reaches_later m later other rises le = tt

reach_later : (m later : ℕ) (cs : List ObserverCall) → m ≤ later → Each (ReachesTo m) cs → Each (ReachesTo later) cs
reach_later m later [] rises each = tt
reach_later m later (c ∷ cs) rises each = (reaches_later m later c rises each.0, reach_later m later cs rises each.1)

-- ---- a transition

abbrev at : Job → Slot → Around → Stage → Inputs
at job slot ws stage = record { job = job; slot = slot; around = ws; stage = stage }

observed_reaches : (b c : Bool) (m : ℕ) (t : Ticket) → Each (ReachesTo m) (observe_calls_by b c m t)
observed_reaches true c m t = (omega arith, tt)
observed_reaches false true m t = (tt, tt)
observed_reaches false false m t = tt

committed_reaches : (n now serial : ℕ) (t : Ticket) (ws : Around) (o : CommitOutcome) → Each (ReachesTo (handed (committed o n t now serial ws).hands ws.time)) (committed o n t now serial ws).calls
committed_reaches n now serial t ws Keeps = observed_reaches (is_registration t) (is_cancellation t) (max ws.time now) t
committed_reaches n now serial t ws Writes = tt
committed_reaches n now serial t ws Overtakes = tt
committed_reaches n now serial t ws Ends = tt

mark_missing_reaches : (out : Bool) (turn : Turn) (present : Option Present) (m : ℕ) → Each (ReachesTo m) (mark_missing_calls out turn present ++ Advance m ∷ [])
mark_missing_reaches true turn None m = (tt, (omega arith, tt))
mark_missing_reaches true turn (Some p) m = (omega arith, tt)
mark_missing_reaches false turn present m = (omega arith, tt)

told_reaches : (b : Bool) (turn : Turn) (id random m serial : ℕ) (bytes : ArrayVec ℕ) → ReachesTo m (told_call b turn id random m serial bytes)
told_reaches true turn id random m serial bytes = omega arith
told_reaches false turn id random m serial bytes = tt

note_reaches : (turn : Turn) (id random m : ℕ) (found : Option Ticket) (sent : Option Emission) → Each (ReachesTo m) (note_calls turn id random m found sent)
note_reaches turn id random m found None = (omega arith, tt)
note_reaches turn id random m found (Some e) = (told_reaches (keeps_observer found) turn id random m (serial_told found) e.bytes, (omega arith, tt))

step_reaches : (c : Step) (job : Job) (slot : Slot) (ws : Around) → Each (ReachesTo (handed (effect_by c job slot ws).hands ws.time)) (effect_by c job slot ws).calls
step_reaches (steps.TakesTurn memory readings turn) job slot ws = mark_missing_reaches (is_out_at turn ws.time ws.watch) turn slot.present ws.time
step_reaches (steps.Commits now n t) job slot ws = committed_reaches n now slot.serial t ws (outcome t slot)
step_reaches (steps.Installs memory) job slot ws = subst (Each (ReachesTo (handed (effect_by (steps.Installs memory) job slot ws).hands ws.time))) (sym (verified_calls ws.time 0 memory (at job slot ws ToInstall))) tt
step_reaches (steps.Notes now random turn found id) job slot ws = note_reaches turn id random (max ws.time now) found (note_at turn id (max ws.time now) found ws.watch)
step_reaches (steps.GivesUp now turn needs) job slot ws = (omega arith, tt)
step_reaches other job slot ws = tt

transition_reaches : (e : Event) (job : Job) (slot : Slot) (ws : Around) (s : Stage) → Each (ReachesTo (handed (transition e (at job slot ws s)).hands ws.time)) (transition e (at job slot ws s)).calls
transition_reaches e job slot ws s =
    by_effect (λ st m. Each (ReachesTo (handed m.hands ws.time)) m.calls) job slot ws
    (λ c asked. step_reaches c job slot ws) (λ st. tt) e s

-- ---- an event

handed_rises : (o : Option ℕ) (m : ℕ) → m ≤ handed o m
handed_rises None m = omega arith
handed_rises (Some now) m = omega arith

low_by : (p : ℕ → Bool) (i k : ℕ) (b : Bool) → nat_lt i 8 ≡ b → (if b then place_from p 8 0 else None) ≡ Some k → i < 8
low_by p i k true low is = ltb-true i 8 low
low_by p i k false low is = absurd (cc is)

due_low : (s : Seen) (i at k : ℕ) → due_in s i at ≡ Some k → i < 8
unfolding due_in
due_low s i at k is = low_by (is_due_at s i at) i k (nat_lt i 8) refl is

overdue_low : (s : Seen) (i at k : ℕ) → overdue_in s i at ≡ Some k → i < 8
unfolding overdue_in
overdue_low s i at k is = low_by (is_overdue_at s i at) i k (nat_lt i 8) refl is

-- the shard of a slot is the remainder of the slot's number by eight.
shard_is : (k i n : ℕ) → i < 8 → 8 * k + i ≡ n → i ≡ n % 8
shard_is k i n low is =
    let turned : n ≡ k * 8 + i = omega (arith, is) in
    sym (ap (λ (x : ℕ). x % 8) turned ∙ mod-mul-add k 8 i low)

module _ (s : Seen) where
  -- the time of a shard after an event.
  abbrev later : Event → ℕ → ℕ
  later e i = handed (hands_by (at_shard e) i) (shard_time_after (names e) e s i)

  named_rises : (o : Option ℕ) (e : Event) (i : ℕ) → s.shard_time i ≤ shard_time_after o e s i
  named_rises None e i = omega arith
  named_rises (Some k) e i = by (slot_of s k % 8 == i)
    where
      by : (b : Bool) → s.shard_time i ≤ (if b then handed (transition e (inputs s k)).hands (s.shard_time i) else s.shard_time i)
      by true = handed_rises (transition e (inputs s k)).hands (s.shard_time i)
      by false = omega arith

  shard_rises : (e : Event) (i : ℕ) → s.shard_time i ≤ later e i
  shard_rises e i =
      let before = named_rises (names e) e i in
      let own = handed_rises (hands_by (at_shard e) i) (shard_time_after (names e) e s i) in
      omega (arith, before, own)

  -- the time that the calls of a job pass is at most that of the slot's shard after the event.
  own_time : (e : Event) (k : ℕ) → names e ≡ Some k → handed (transition e (inputs s k)).hands (s.shard_time (slot_of s k % 8)) ≤ later e (slot_of s k % 8)
  own_time e k named =
      let i = slot_of s k % 8 in
      let is = (λ j. shard_time_after (named j) e s i) ∙ ap (λ (b : Bool). if b then handed (transition e (inputs s k)).hands (s.shard_time i) else s.shard_time i) (eq-eqb i i refl) in
      let own = handed_rises (hands_by (at_shard e) i) (shard_time_after (names e) e s i) in
      omega (arith, is, own)

  slot_reaches : (e : Event) (k n : ℕ) (b : Bool) → names e ≡ Some k → (slot_of s k == n) ≡ b → Each (ReachesTo (later e (n % 8))) (if b then (transition e (inputs s k)).calls else [])
  slot_reaches e k n true named is =
      let m = slot_of s k in
      subst (λ (x : ℕ). Each (ReachesTo (later e (x % 8))) (transition e (inputs s k)).calls) (eqb-true m n is)
      (reach_later (handed (transition e (inputs s k)).hands (s.shard_time (m % 8))) (later e (m % 8)) (transition e (inputs s k)).calls (own_time e k named)
      (transition_reaches e (job s k) (slot_at s m) (around s m) (stage s k)))
  slot_reaches e k n false named is = tt

  named_reach : (e : Event) (n : ℕ) (o : Option ℕ) → names e ≡ o → Each (ReachesTo (later e (n % 8))) (calls_named o e s n)
  named_reach e n None named = tt
  named_reach e n (Some k) named = slot_reaches e k n (slot_of s k == n) named refl

  -- the time that an event of a shard passes is at most that of the shard after the event.
  at_shard_time : (shard now n : ℕ) → shard ≡ n % 8 → max (s.shard_time shard) now ≤ handed (if (shard == (n % 8)) && nat_lt (n % 8) 8 then Some now else None) (s.shard_time (n % 8))
  at_shard_time shard now n is =
      let same = ap s.shard_time is in
      let yes = ap (λ (b : Bool). handed (if b then Some now else None) (s.shard_time (n % 8))) (and_from (shard == (n % 8)) (nat_lt (n % 8) 8) (eq-eqb shard (n % 8) is) (lt-ltb (n % 8) 8 (omega arith))) in
      omega (arith, same, yes)

  due_reaches : (shard now n : ℕ) (b : Bool) → is_place_of (due_in s shard (max (s.shard_time shard) now)) shard n ≡ b → Each (ReachesTo (later (Due shard now) (n % 8))) (if b then NextDue (max (s.shard_time shard) now) (slot_at s n).notify_serial ∷ [] else [])
  due_reaches shard now n true is =
      let place = place_is (due_in s shard (max (s.shard_time shard) now)) shard n is in
      (at_shard_time shard now n (shard_is place.0 shard n (due_low s shard (max (s.shard_time shard) now) place.0 place.1) place.2), tt)
  due_reaches shard now n false is = tt

  tick_reaches : (shard now n : ℕ) (b : Bool) → is_place_of (overdue_in s shard (max (s.shard_time shard) now)) shard n ≡ b → Each (ReachesTo (later (ShardTick shard now) (n % 8))) (if b then TickObservers (max (s.shard_time shard) now) ∷ [] else [])
  tick_reaches shard now n true is =
      let place = place_is (overdue_in s shard (max (s.shard_time shard) now)) shard n is in
      (at_shard_time shard now n (shard_is place.0 shard n (overdue_low s shard (max (s.shard_time shard) now) place.0 place.1) place.2), tt)
  tick_reaches shard now n false is = tt

  signal_reaches : (m id : ℕ) (to : Endpoint) (reset b : Bool) → Each (ReachesTo m) (if b then signal_call reset to id ∷ [] else [])
  signal_reaches m id to true true = (tt, tt)
  signal_reaches m id to false true = (tt, tt)
  signal_reaches m id to reset false = tt

  shard_reach : (e : Event) (n : ℕ) → Each (ReachesTo (later e (n % 8))) (calls_by (at_shard e) s n)
  shard_reach (Due shard now) n = due_reaches shard now n (is_place_of (due_in s shard (max (s.shard_time shard) now)) shard n) refl
  shard_reach (ShardTick shard now) n = tick_reaches shard now n (is_place_of (overdue_in s shard (max (s.shard_time shard) now)) shard n) refl
  shard_reach (Signal shard to id reset) n = signal_reaches (later (Signal shard to id reset) (n % 8)) id to reset ((n % 8) == shard)
  shard_reach other n = tt

  follows_after : (r : Entry) (n : ℕ) → (watch s n).time ≤ s.shard_time (n % 8) → (watch (and_then r s) n).time ≤ later r.event (n % 8)
  follows_after r n before =
      let e = r.event in
      let named = calls_named (names e) e s n in
      let of_shard = calls_by (at_shard e) s n in
      let is = after_append n s.policy.confirm_after named (of_shard ++ s.calls n) ∙ ap (after_calls named) (after_append n s.policy.confirm_after of_shard (s.calls n)) in
      let rises = shard_rises e (n % 8) in
      let here : (watch s n).time ≤ later e (n % 8) = omega (arith, before, rises) in
      subst (λ (t : ObserverList). t.time ≤ later e (n % 8)) (sym is)
      (calls_reach (later e (n % 8)) named (after_calls of_shard (watch s n)) (named_reach e n (names e) refl) (calls_reach (later e (n % 8)) of_shard (watch s n) (shard_reach e n) here))

pub follows_shard : (h : History) (n : ℕ) → (watch (seen h) n).time ≤ (seen h).shard_time (n % 8)
unfolding seen
follows_shard (BeginsWith stored id policy) n = omega arith
follows_shard (Then h r) n = follows_after (seen h) r n (follows_shard h n)

-- if the time of a slot's shard is passed to the slot's observers, their time is that of the shard.
pub turn_time : (h : History) (k now : ℕ) → max (watch (seen h) (slot_of (seen h) k)).time (time_at (seen h) k now) ≡ time_at (seen h) k now
turn_time h k now = let le = follows_shard h (slot_of (seen h) k) in omega (arith, le)
