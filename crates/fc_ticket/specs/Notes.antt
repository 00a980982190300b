-- Notifications (RFC 7641, section 4.2): the message to a lease's observer, and the end of the
-- lease.
use Rattle.std.specs.Prelude.{◌≡◌, ℕ, ◌==◌, Bool, true, false, if◌then◌else◌, List, [], ◌∷◌, ◌++◌, Option, Some, None, is_some}
use Rattle.std.specs.Option.{option_map}
use Rattle.arrayvec.specs.ArrayVec.{ArrayVec}
use Rattle.coap_msg.specs.Codes.{code}
use Rattle.coap_msg.specs.declared.types.Emission.{Emission}
use Rattle.coap_msg.specs.declared.types.MessageType.{MessageType}
use Rattle.coap_msg.specs.declared.types.MessageType.TheVariants.{Confirmable, NonConfirmable}
use Rattle.coap_reply.specs.Blocks.{cut_for}
use Rattle.coap_reply.specs.Responses.{Envelope, Response, bare, ran_response, sent_in}
use Rattle.fc_machine.specs.Ran.{Ran}
use Rattle.fc_observe.specs.declared.entry.Turn.{Turn}
use Rattle.fc_observe.specs.Calls.{ObserverCall, Advance, End, Notify}
use Rattle.fc_observe.specs.Observers.{ObserverList, list_at_time, entry_out, is_missing, must_confirm_turn}
use Rattle.fc_observe.specs.Views.{Interest, interest_of}
use Rattle.fc_ticket.specs.declared.note.NoteOutcome.{NoteOutcome}
use Rattle.fc_ticket.specs.declared.note.NoteOutcome.TheVariants as outcomes
use Rattle.fc_ticket.specs.declared.note.Noted.{Noted}
use Rattle.fc_ticket.specs.declared.note.Noted.TheVariants.{Send, Stale, Stranger}
use Rattle.fc_ticket.specs.declared.note.Notification.{Notification}
use Rattle.fc_ticket.specs.declared.note.Notification.TheVariants as tells
use Rattle.fc_ticket.specs.Runs.{IsRunOf, meaning_at}
use Rattle.fc_ticket.specs.Tickets.{Ticket}

-- ---- the content

-- the ticket of the run that is notified; `None` if the slot was empty.
abbrev pub ticket_told : Notification → Option Ticket
ticket_told (tells.Ran outcome ticket) = Some ticket.now
ticket_told tells.Gone = None

-- the response of a notification. That of a run has the snapshot's serial as its sequence number,
-- and the block that the ticket's request names. That of an empty slot is 4.04.
abbrev pub note_response : Option Ticket → Response
note_response None = bare (code 4 4)
note_response (Some t) = ran_response (meaning_at t).code (cut_for t.block (meaning_at t).reply) t.serial true

-- whether the observer stays in the list: only if the response is 2.05 (Content).
abbrev pub keeps_observer : Option Ticket → Bool
keeps_observer None = false
keeps_observer (Some t) = (meaning_at t).code == code 2 5

-- ---- the observer

-- the observer that a lease notifies, if the lease is active. If the content is an empty slot, the
-- lease's snapshot must have found the slot empty.
abbrev pub observer_told : Option Ticket → Turn → ObserverList → Option Interest
observer_told None turn w = if is_missing turn w then option_map interest_of (entry_out turn w) else None
observer_told (Some t) turn w = option_map interest_of (entry_out turn w)

-- the type of a notification, which is confirmable or not (RFC 7641, section 4.5).
abbrev pub note_kind : Bool → MessageType
note_kind true = Confirmable
note_kind false = NonConfirmable

-- the header of a notification, with this message ID and the token of the observer's registration.
abbrev pub note_envelope : ℕ → Bool → Interest → Envelope
note_envelope id confirmable o = record { to = o.endpoint; kind = note_kind confirmable; id = id; token = o.token.items }

-- the notification that is sent to this observer, with this message ID.
abbrev pub note_to : ℕ → Bool → Option Ticket → Interest → Emission
note_to id confirmable found o = sent_in (note_envelope id confirmable o) (note_response found)

-- the notification of a lease, if one may be sent, at the time of these observers.
abbrev pub note_in : Turn → ℕ → Option Ticket → ObserverList → Option Emission
note_in turn id found w = option_map (note_to id (must_confirm_turn turn w) found) (observer_told found turn w)

-- the notification of a lease, if one may be sent, at this time.
abbrev pub note_at : Turn → ℕ → ℕ → Option Ticket → ObserverList → Option Emission
note_at turn id at found w = note_in turn id found (list_at_time at w)

-- ---- the end of the lease

-- the serial that the observer was sent; 0 for an empty slot.
abbrev pub serial_told : Option Ticket → ℕ
serial_told None = 0
serial_told (Some t) = t.serial

-- the call that ends the lease of a notification with these bytes. If the response isn't 2.05
-- (Content), the observer is removed.
abbrev pub told_call : Bool → Turn → ℕ → ℕ → ℕ → ℕ → ArrayVec ℕ → ObserverCall
told_call true turn id random at serial bytes = Notify at turn id serial random bytes
told_call false turn id random at serial bytes = End turn

-- the call that ends the lease of a notification that is sent at this time; none if nothing is
-- sent.
abbrev pub told_calls : Turn → ℕ → ℕ → ℕ → Option Ticket → Option Emission → List ObserverCall
told_calls turn id random at found None = []
told_calls turn id random at found (Some e) = told_call (keeps_observer found) turn id random at (serial_told found) e.bytes ∷ []

-- the calls of a notification on the observers, the newest first.
abbrev pub note_calls : Turn → ℕ → ℕ → ℕ → Option Ticket → Option Emission → List ObserverCall
note_calls turn id random at found sent = told_calls turn id random at found sent ++ Advance at ∷ []

-- ---- the result

-- the message that is sent, if the result has one.
abbrev pub sent_of : Noted → Option Emission
sent_of (Send emission) = Some emission
sent_of other = None

-- the result of a notification whose message was written over another.
abbrev pub noted_as : NoteOutcome → Emission → Noted
noted_as outcomes.Sent emission = Send emission
noted_as outcomes.Stale emission = Stale
noted_as outcomes.Stranger emission = Stranger

-- the message is unchanged unless a notification was sent.
abbrev pub IsKeptUnlessSent : NoteOutcome → Emission → Emission → Type 0
IsKeptUnlessSent outcomes.Sent old new = Unit {0}
IsKeptUnlessSent other old new = new ≡ old

-- the ticket is that of this lease, and the outcome is that of the ticket, at this serial of the
-- slot.
pub record IsRunOfTurn (turn : Turn) (ran : Ran) (t : Ticket) (serial : ℕ) : Type 0 where
  pub slot : t.origin.slot ≡ turn.slot
  pub number : t.turn ≡ Some turn.number
  pub run : IsRunOf ran t serial

-- the notification belongs to the lease.
abbrev pub IsOfTurn : Turn → ℕ → Notification → Type 0
IsOfTurn turn serial (tells.Ran outcome ticket) = IsRunOfTurn turn outcome.now ticket.now serial
IsOfTurn turn serial tells.Gone = Unit {0}

-- the result isn't `Stranger`.
abbrev pub IsSentOrStale : Noted → Type 0
IsSentOrStale Stranger = ⊥
IsSentOrStale other = Unit {0}

-- the result of a notification, at the time of these observers. The first test is whether the lease
-- may be notified, the second whether the notification belongs to the lease.
abbrev pub IsNotedIn : Notification → Turn → ℕ → ℕ → ObserverList → Noted → Type 0
IsNotedIn told turn id serial w Stale = observer_told (ticket_told told) turn w ≡ None
IsNotedIn told turn id serial w Stranger = (is_some (observer_told (ticket_told told) turn w) ≡ true) × (IsOfTurn turn serial told → ⊥)
IsNotedIn told turn id serial w (Send emission) = IsOfTurn turn serial told × (Some emission ≡ note_in turn id (ticket_told told) w)

-- the result of a notification, at this time.
abbrev pub IsNoted : Notification → Turn → ℕ → ℕ → ℕ → ObserverList → Noted → Type 0
IsNoted told turn id at serial w noted = IsNotedIn told turn id serial (list_at_time at w) noted
