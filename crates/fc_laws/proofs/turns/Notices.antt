-- The notification of a lease, and its receiver.
use Rattle.std.proofs.Common.{◌≡◌, ℕ, ◌+◌, ◌*◌, ◌<◌, ◌≤◌, List, [], ◌∷◌, cond, subst, arith, Bool, true, false, Option, Some, None, refl, sym, ap, ◌∙◌, max, if◌then◌else◌}
use Rattle.std.specs.Prelude.{◌==◌, find, is_some, nat_le, nat_lt}
use Rattle.std.specs.List.{All, Contains}
use Rattle.std.proofs.lemmas.Bool.{and_parts, false_from_ne_true, ltb-true}
use Rattle.std.proofs.lemmas.List.Elements.{All-head, All-tail, All-weaker}
use Rattle.std.specs.Option.{option_map}
use Rattle.arrayvec.specs.ArrayVec.{ArrayVec}
use Rattle.coap_msg.specs.declared.types.Emission.{Emission}
use Rattle.coap_msg.specs.declared.types.Endpoint.{Endpoint}
use Rattle.coap_msg.specs.declared.types.MessageType.{MessageType}
use Rattle.coap_msg.specs.declared.types.MessageType.TheVariants.{Confirmable, NonConfirmable}
use Rattle.coap_reply.specs.Responses.{Response, bare, sent_in}
use Rattle.fc_observe.specs.declared.entry.Entry.{Entry}
use Rattle.fc_observe.specs.declared.entry.Turn.{Turn}
use Rattle.fc_observe.specs.Observers.{ObserverList, list_at_time, entry_out, is_missing, is_out, must_confirm_by, must_confirm_turn, ticked}
use Rattle.fc_observe.specs.Views.{interest_of}
use Rattle.fc_observe.proofs.Hearing.{confirm_after_is, found_held, none_found, resent_of_held}
use Rattle.fc_observe.proofs.Lasting.{missing_where_out}
use Rattle.fc_observe.proofs.Staying.{held_passes}
use Rattle.fc_observe.proofs.Serials.{out_phase, sent_above}
use Rattle.fc_observe.specs.Entries.{has_turn, is_entry_of, is_out_in, retransmission_in}
use Rattle.fc_observe.specs.declared.entry.Phase.{Phase}
use Rattle.fc_observe.specs.declared.entry.Phase.TheVariants.{Outstanding, TurnOut}
use Rattle.fc_observe.specs.declared.observers.Ticked.{Ticked}
use Rattle.fc_observe.specs.declared.observers.Ticked.TheVariants.{Resend}
use Rattle.fc_registry.specs.Calls.{is_out_at}
use Rattle.fc_ticket.specs.Notes.{note_at, note_kind, note_response, note_to}
use Rattle.fc_ticket.specs.Tickets.{Ticket}
use Rattle.fc_core.specs.declared.event.Event.TheVariants.{GiveUp, Note, ShardTick}
use Rattle.fc_core.specs.Stage.{Stage}
use Rattle.fc_core.specs.Stage.{Gone, ToTell}
use Rattle.fc_core.specs.TurnStage.{TurnStage}
use Rattle.fc_core.specs.TurnStage as turns
use Rattle.fc_core.specs.History.{Entry as HistoryEntry, History, Seen, Then, did, overdue_in, inputs, seen, stage, watch}
use Rattle.fc_core.specs.Laws.{is_noop, is_noop_at, followed_by, slot_of}
use Rattle.fc_core.specs.Legal.{Emits, resent, resent_at}
use Rattle.fc_laws.specs.ObserveLaws.{is_held}
use Rattle.fc_core.specs.Transitions.{notification}
use Rattle.fc_laws.specs.TurnLaws.{HasLapsed, IsToHeld, Notifies, NotifiesOf, Resends, time_at, response_of}
use Rattle.fc_laws.proofs.turns.Apart.{given_up_ever, noted_ever}
use Rattle.fc_laws.proofs.turns.Clocks.{turn_time}
use Rattle.fc_laws.proofs.turns.Observing.{own}
use Rattle.fc_laws.proofs.jobs.NoOps.{no_ops_emit_nothing}
use Rattle.fc_laws.proofs.turns.Told.{found_noticed, none_missed}

kind_is : (b : Bool) → note_kind b ≡ if b then Confirmable else NonConfirmable
kind_is true = refl
kind_is false = refl

module _ (turn : Turn) (id at : ℕ) (w : ObserverList) (found : Option Ticket) (e : Emission) (later : max w.time at ≡ at) (confirm_after : ℕ) (after_is : w.confirm_after ≡ confirm_after) where
  -- an emission by an entry that has the active lease is a notification to that entry.
  notifies_by : (x : Option Entry) → entry_out turn (list_at_time at w) ≡ x → Some e ≡ option_map (note_to id (must_confirm_by x w.confirm_after (max w.time at)) found) (option_map interest_of x) → Notifies turn id at confirm_after w (note_response found) e
  notifies_by None out sent = absurd (cc sent)
  notifies_by (Some o) out sent =
      let confirms = nat_le (o.confirmed + w.confirm_after) (max w.time at) in
      let is : e ≡ note_to id confirms found (interest_of o) = cc sent in
      record {
        entry = o;
        held = found_held (is_out turn (list_at_time at w)) w.held o out;
        out = out;
        is = is ∙ ap (λ (kind : MessageType). sent_in (record { to = o.endpoint; kind = kind; id = id; token = o.token.items }) (note_response found))
            (kind_is confirms ∙ (λ i. if nat_le (o.confirmed + after_is i) (later i) then Confirmable else NonConfirmable));
      }

  notifies_out : Some e ≡ option_map (note_to id (must_confirm_by (entry_out turn (list_at_time at w)) w.confirm_after (max w.time at)) found) (option_map interest_of (entry_out turn (list_at_time at w))) → Notifies turn id at confirm_after w (note_response found) e
  notifies_out sent = notifies_by (entry_out turn (list_at_time at w)) refl sent

  -- an emission for an empty slot is a notification too. For an empty slot only a lease notifies
  -- that is marked as missing.
  notifies_if : (b : Bool) → Some e ≡ option_map (note_to id (must_confirm_by (entry_out turn (list_at_time at w)) w.confirm_after (max w.time at)) found) (if b then option_map interest_of (entry_out turn (list_at_time at w)) else None) → Notifies turn id at confirm_after w (note_response found) e
  notifies_if true sent = notifies_out sent
  notifies_if false sent = absurd (cc sent)

sent_notifies : (turn : Turn) (id at : ℕ) (w : ObserverList) (found : Option Ticket) (e : Emission) → max w.time at ≡ at → (confirm_after : ℕ) → w.confirm_after ≡ confirm_after → Some e ≡ note_at turn id at found w → Notifies turn id at confirm_after w (note_response found) e
sent_notifies turn id at w None e later confirm_after after_is sent = notifies_if turn id at w None e later confirm_after after_is (is_missing turn (list_at_time at w)) sent
sent_notifies turn id at w (Some t) e later confirm_after after_is sent = notifies_out turn id at w (Some t) e later confirm_after after_is sent

-- the emission of the event of a lease that is to notify is that of the lease's notification.
pub note_sends : (s : Seen) (k now random id : ℕ) (turn : Turn) (found : Option Ticket) (o : Option Emission) → stage s k ≡ ToTell turn (turns.ToNote found id) → Emits s (Note k now random) o → o ≡ note_at turn id (time_at s k now) found (watch s (slot_of s k))
note_sends s k now random id turn found o is sent = sent ∙ ap (λ (st : Stage). notification now (inputs s k) st) is

notifies : (h : History) (k now random id : ℕ) (turn : Turn) (found : Option Ticket) (e : Emission) → stage (seen h) k ≡ ToTell turn (turns.ToNote found id) → Emits (seen h) (Note k now random) (Some e) → NotifiesOf (seen h) k now turn id (note_response found) e
notifies h k now random id turn found e is sent =
    let n = slot_of (seen h) k in
    sent_notifies turn id (time_at (seen h) k now) (watch (seen h) n) found e (turn_time h k now)
    (seen h).policy.confirm_after (confirm_after_is n (seen h).policy.confirm_after ((seen h).calls n)) (note_sends (seen h) k now random id turn found (Some e) is sent)

pub found_notifies : (h : History) (k now random id : ℕ) (turn : Turn) (t : Ticket) (e : Emission) → stage (seen h) k ≡ ToTell turn (turns.ToNote (Some t) id) → Emits (seen h) (Note k now random) (Some e) → NotifiesOf (seen h) k now turn id (response_of t) e
found_notifies h k now random id turn t e is sent = notifies h k now random id turn (Some t) e is sent

pub empty_notifies : (h : History) (k now random id : ℕ) (turn : Turn) (e : Emission) → stage (seen h) k ≡ ToTell turn (turns.ToNote None id) → Emits (seen h) (Note k now random) (Some e) → NotifiesOf (seen h) k now turn id (bare 132) e
empty_notifies h k now random id turn e is sent = notifies h k now random id turn None e is sent

-- ---- the condition for sending

mapped_some : {A B : Type 0} (f : A → B) (g : Entry → A) (x : Option Entry) → is_some (option_map f (option_map g x)) ≡ is_some x
mapped_some f g None = refl
mapped_some f g (Some o) = refl

mapped_if : {A B : Type 0} (f : A → B) (g : Entry → A) (x : Option Entry) (b : Bool) → b ≡ is_some x → is_some (option_map f (if b then option_map g x else None)) ≡ is_some x
mapped_if f g x true is = mapped_some f g x
mapped_if f g x false is = is

pub note_where_out : (h : History) (k now id : ℕ) (turn : Turn) (found : Option Ticket) → stage (seen h) k ≡ ToTell turn (turns.ToNote found id) → is_some (note_at turn id (time_at (seen h) k now) found (watch (seen h) (slot_of (seen h) k))) ≡ is_out_at turn (time_at (seen h) k now) (watch (seen h) (slot_of (seen h) k))
note_where_out h k now id turn None is =
    let w = list_at_time (time_at (seen h) k now) (watch (seen h) (slot_of (seen h) k)) in
    mapped_if (note_to id (must_confirm_turn turn w) None) interest_of (entry_out turn w) (is_missing turn w) (missing_where_out turn w (none_missed h k id turn is))
note_where_out h k now id turn (Some t) is =
    let w = list_at_time (time_at (seen h) k now) (watch (seen h) (slot_of (seen h) k)) in
    mapped_some (note_to id (must_confirm_turn turn w) (Some t)) interest_of (entry_out turn w)

pub sends_where_out : (h : History) (k now random id : ℕ) (turn : Turn) (found : Option Ticket) (o : Option Emission) → stage (seen h) k ≡ ToTell turn (turns.ToNote found id) → Emits (seen h) (Note k now random) o → is_some o ≡ is_out_at turn (time_at (seen h) k now) (watch (seen h) (slot_of (seen h) k))
sends_where_out h k now random id turn found o is sent = ap (λ (x : Option Emission). is_some x) (note_sends (seen h) k now random id turn found o is sent) ∙ note_where_out h k now id turn found is

none_by : (o : Option Emission) → is_some o ≡ false → o ≡ None
none_by None e = refl
none_by (Some x) e = absurd (cc e)

-- a lease that was granted at least 247,000 ms before isn't active any more.
lapsed_in : (slot m : ℕ) (turn : Turn) (o : Entry) → ((since : ℕ) (missing : Bool) → o.phase ≡ TurnOut turn.number since missing → since + 247000 ≤ m) → has_turn slot m turn o ≡ false
lapsed_in slot m turn o lapsed = false_from_ne_true (has_turn slot m turn o) (λ out.
    let parts = and_parts (turn.slot == slot) (is_out_in m turn.number o.phase) out in
    let p = out_phase m turn.number o.phase parts.1 in
    let within : is_out_in m turn.number (TurnOut turn.number p.0 p.1) ≡ true = ap (is_out_in m turn.number) (sym p.2) ∙ parts.1 in
    let lt = ltb-true m (p.0 + 247000) (and_parts (turn.number == turn.number) (nat_lt m (p.0 + 247000)) within).1 in
    let le = lapsed p.0 p.1 p.2 in
    absurd (omega (arith, lt, le)))

pub lapsed_silent : (h : History) (k now random id : ℕ) (turn : Turn) (found : Option Ticket) (o : Option Emission) → stage (seen h) k ≡ ToTell turn (turns.ToNote found id) → Emits (seen h) (Note k now random) o → All (HasLapsed turn (time_at (seen h) k now)) (watch (seen h) (slot_of (seen h) k)).held → o ≡ None
lapsed_silent h k now random id turn found o is sent lapsed =
    let at = time_at (seen h) k now in
    let w = watch (seen h) (slot_of (seen h) k) in
    let later = turn_time h k now in
    let none : entry_out turn (list_at_time at w) ≡ None = none_found (is_out turn (list_at_time at w)) w.held
    (All-weaker (HasLapsed turn at) (λ (e : Entry). is_out turn (list_at_time at w) e ≡ false) (λ e over. lapsed_in w.slot (max w.time at) turn e (subst (λ (m : ℕ). HasLapsed turn m e) (sym later) over)) w.held lapsed) in
    none_by o (sends_where_out h k now random id turn found o is sent ∙ ap (λ (x : Option Entry). is_some x) none)

-- an event of a lease that has ended is a no-op.
gone_noop : (s : Seen) (k now random : ℕ) → stage s k ≡ Gone → is_noop s (Note k now random) ≡ true
gone_noop s k now random gone = ap (is_noop_at (Note k now random) (slot_of s k)) gone

gone_silent : (s : Seen) (k now random : ℕ) (o : Option Emission) → stage s k ≡ Gone → Emits s (Note k now random) o → o ≡ None
gone_silent s k now random o gone sent = no_ops_emit_nothing (did (Note k now random) o) s (gone_noop s k now random gone) sent

pub given_up_silent : (h : History) (rs : List HistoryEntry) (k now next random : ℕ) (turn : Turn) (needs : TurnStage) (e o : Option Emission) → stage (seen h) k ≡ ToTell turn needs → Emits (seen (followed_by (Then h (did (GiveUp k now) e)) rs)) (Note k next random) o → o ≡ None
given_up_silent h rs k now next random turn needs e o is sent = gone_silent (seen (followed_by (Then h (did (GiveUp k now) e)) rs)) k next random o (given_up_ever h rs k now turn needs e is) sent

pub noted_silent : (h : History) (rs : List HistoryEntry) (k now random next again id : ℕ) (turn : Turn) (found : Option Ticket) (e o : Option Emission) → stage (seen h) k ≡ ToTell turn (turns.ToNote found id) → Emits (seen (followed_by (Then h (did (Note k now random) e)) rs)) (Note k next again) o → o ≡ None
noted_silent h rs k now random next again id turn found e o is sent = gone_silent (seen (followed_by (Then h (did (Note k now random) e)) rs)) k next again o (noted_ever h rs k now random id turn found e is) sent

-- ---- the serials that a lease sends

found_if : (P : Entry → Type 0) (p : Entry → Bool) (o x : Entry) (os : List Entry) (b : Bool) → p o ≡ b → P o → (find p os ≡ Some x → P x × (p x ≡ true)) → cond b (Some o) (find p os) ≡ Some x → P x × (p x ≡ true)
found_if P p o x os true passes here rest found = let same : o ≡ x = cc found in (subst P same here, ap p (sym same) ∙ passes)
found_if P p o x os false passes here rest found = rest found

-- if each element has a property, so has the element that a search finds, which passes the test.
pub found_holds : (P : Entry → Type 0) (p : Entry → Bool) (os : List Entry) (x : Entry) → All P os → find p os ≡ Some x → P x × (p x ≡ true)
found_holds P p [] x all found = absurd (cc found)
found_holds P p (o ∷ os) x all found = found_if P p o x os (p o) refl (All-head P o os all) (found_holds P p os x (All-tail P o os all)) found

pub sent_above_last : (h : History) (k now id : ℕ) (turn : Turn) (t : Ticket) (o : Entry) → stage (seen h) k ≡ ToTell turn (turns.ToNote (Some t) id) → entry_out turn (list_at_time now (watch (seen h) (slot_of (seen h) k))) ≡ Some o → o.serial < t.serial
sent_above_last h k now id turn t o is out =
    let n = slot_of (seen h) k in
    let w = watch (seen h) n in
    let passes = is_out turn (list_at_time now w) in
    let x = found_holds (λ (e : Entry). passes e ≡ true → e.serial < t.serial) passes w.held o (sent_above n (seen h).policy.confirm_after now turn t.serial ((seen h).calls n) (found_noticed h k id turn t is)) out in
    x.0 x.1

-- ---- the receivers

own_held : (w : ObserverList) (o : Entry) → Contains w.held o → is_held o.endpoint o.token.items w ≡ true
own_held w o there = held_passes (is_entry_of o.endpoint o.token.items) w.held o there (own o)

goes_to_held : (turn : Turn) (id at confirm_after : ℕ) (w : ObserverList) (response : Response) (e : Emission) → Notifies turn id at confirm_after w response e → IsToHeld w e
goes_to_held turn id at confirm_after w response e n = record {
  entry = n.entry;
  held = own_held w n.entry n.held;
  kind = if nat_le (n.entry.confirmed + confirm_after) at then Confirmable else NonConfirmable;
  id = id;
  response = response;
  is = n.is;
}

pub notified_held : (h : History) (k now random id : ℕ) (turn : Turn) (found : Option Ticket) (e : Emission) → stage (seen h) k ≡ ToTell turn (turns.ToNote found id) → Emits (seen h) (Note k now random) (Some e) → IsToHeld (watch (seen h) (slot_of (seen h) k)) e
notified_held h k now random id turn found e is sent = goes_to_held turn id (time_at (seen h) k now) (seen h).policy.confirm_after (watch (seen h) (slot_of (seen h) k)) (note_response found) e (notifies h k now random id turn found e is sent)

-- the emission is the outstanding notification of an entry in this phase, retransmitted.
record ResendsIn (to : Endpoint) (p : Phase) (e : Emission) : Type 0 where
  sent_at : ℕ
  timeout : ℕ
  retransmissions : ℕ
  bytes : ArrayVec ℕ
  outstanding : p ≡ Outstanding sent_at timeout retransmissions bytes
  few : retransmissions < 4
  is : e ≡ record { to = to; bytes = bytes }

resends_by : (to : Endpoint) (sent_at timeout n : ℕ) (bytes : ArrayVec ℕ) (e : Emission) (b : Bool) → nat_lt n 4 ≡ b → (if b then Some (record { to = to; bytes = bytes }) else None) ≡ Some e → ResendsIn to (Outstanding sent_at timeout n bytes) e
resends_by to sent_at timeout n bytes e true few is = record { sent_at = sent_at; timeout = timeout; retransmissions = n; bytes = bytes; outstanding = refl; few = ltb-true n 4 few; is = cc is }
resends_by to sent_at timeout n bytes e false few is = absurd (cc is)

resends_in : (to : Endpoint) (p : Phase) (e : Emission) → retransmission_in to p ≡ Some e → ResendsIn to p e
resends_in to (Outstanding sent_at timeout n bytes) e is = resends_by to sent_at timeout n bytes e (nat_lt n 4) refl is
resends_in to other e is = absurd (cc is)

is_resend : (x : Ticked) (e : Emission) → Some e ≡ resent x → x ≡ Resend e
is_resend (Resend own) e is = let same : own ≡ e = cc is in ap (λ (y : Emission). Resend y) same
is_resend other e is = absurd (cc is)

resends_held : (at : ℕ) (w : ObserverList) (e : Emission) → Some e ≡ resent (ticked (list_at_time at w)) → Resends w e
resends_held at w e is =
    let any = resent_of_held (list_at_time at w) e (is_resend (ticked (list_at_time at w)) e is) in
    let o = any.1 in
    let x = resends_in o.endpoint o.phase e any.4 in
    record {
      entry = o;
      held = own_held w o (any.0, any.2, any.3);
      sent_at = x.sent_at;
      timeout = x.timeout;
      retransmissions = x.retransmissions;
      bytes = x.bytes;
      outstanding = x.outstanding;
      few = x.few;
      is = x.is;
    }

resent_by : (s : Seen) (i at : ℕ) (e : Emission) (p : Option ℕ) → overdue_in s i at ≡ p → Some e ≡ resent_at p s i at → (k : ℕ) × (overdue_in s i at ≡ Some k) × Resends (watch s (8 * k + i)) e
resent_by s i at e None overdue sent = absurd (cc sent)
resent_by s i at e (Some k) overdue sent = (k, overdue, resends_held at (watch s (8 * k + i)) e sent)

pub resent_held : (s : Seen) (i now : ℕ) (e : Emission) → Emits s (ShardTick i now) (Some e) → (k : ℕ) × (overdue_in s i (max (s.shard_time i) now) ≡ Some k) × Resends (watch s (8 * k + i)) e
resent_held s i now e sent = resent_by s i (max (s.shard_time i) now) e (overdue_in s i (max (s.shard_time i) now)) refl sent
