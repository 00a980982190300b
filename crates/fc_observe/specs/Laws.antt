-- Properties that the calls on the observers of a slot keep.
use Rattle.std.specs.Prelude.{◌≡◌, ℕ, ◌+◌, ◌++◌, ◌<◌, ◌≤◌, ◌==◌, ◌&&◌, ◌⊎◌, max, nat_le, Bool, true, false, if◌then◌else◌, List, [], ◌∷◌, Option, Some, None}
use Rattle.arrayvec.specs.ArrayVec.{ArrayVec}
use Rattle.coap_msg.specs.Windows.{window}
use Rattle.coap_msg.specs.declared.types.Endpoint.{Endpoint}
use Rattle.fc_help.specs.Request.{Request}
use Rattle.fc_observe.specs.Calls.{ObserverCall, NextDue, Notify, Register, is_registration_of, observers}
use Rattle.fc_observe.specs.Entries.{retransmitted}
use Rattle.fc_observe.specs.Observers.{ObserverList, list_at_time, gives_turn, is_out}
use Rattle.fc_observe.specs.Views.{interest_of}
use Rattle.fc_observe.specs.declared.entry.Entry.{Entry}
use Rattle.fc_observe.specs.declared.entry.Phase.{Phase}
use Rattle.fc_observe.specs.declared.entry.Phase.TheVariants.{Idle, GivenUp, TurnOut, Outstanding}

-- none of the calls registers this endpoint and token.
abbrev pub RegistersNone : Endpoint → List ℕ → List ObserverCall → Type 0
RegistersNone to token [] = Unit {0}
RegistersNone to token (c ∷ h) = (is_registration_of to token c ≡ false) × RegistersNone to token h

-- the revision `notify_serial` for which the lease with this number was granted, or 0 if none was.
abbrev pub noticed_for : ℕ → ℕ → ℕ → List ObserverCall → ℕ
noticed_for number slot confirm_after [] = 0
noticed_for number slot confirm_after (NextDue now notify_serial ∷ h) =
    if gives_turn notify_serial (list_at_time now (observers slot confirm_after h)) && ((observers slot confirm_after h).turns == number)
    then notify_serial
    else noticed_for number slot confirm_after h
noticed_for number slot confirm_after (other ∷ h) = noticed_for number slot confirm_after h

-- a confirmable notification with these bytes was sent at `sent_at` with this timeout. It is
-- outstanding, and wasn't retransmitted.
abbrev pub IsSentAt : ℕ → ℕ → ArrayVec ℕ → Entry → Type 0
IsSentAt sent_at timeout bytes o = o.phase ≡ Outstanding sent_at timeout 0 bytes

-- the entry after retransmissions at these times, the latest first.
abbrev pub resent_entry : List ℕ → Entry → Entry
resent_entry [] o = o
resent_entry (now ∷ before) o = retransmitted now (resent_entry before o)

-- ---- the last revision sent to an observer

-- the call is a notification for the entry's active lease, with this revision.
abbrev pub IsNotified : ObserverCall → ObserverList → Entry → ℕ → Type 0
IsNotified (Notify now turn id sent random bytes) t o serial = (is_out turn (list_at_time now t) o ≡ true) × (serial ≡ sent)
IsNotified other t o serial = ⊥

-- an entry `o` after a call has the same observer as `before`. The last serial sent to the
-- observer is unchanged, or the call is a notification with the new one.
abbrev pub KeepsSerial : ObserverCall → ObserverList → Entry → Entry → Type 0
KeepsSerial c t o before = (interest_of o ≡ interest_of before) × ((o.serial ≡ before.serial) ⊎ IsNotified c t before o.serial)

-- if the call is a registration or a notification, the revision that it passes is at most `n`.
abbrev pub HandsInUpTo : ℕ → ObserverCall → Type 0
HandsInUpTo n (Register now to token request szx serial) = serial ≤ n
HandsInUpTo n (Notify now turn id serial random bytes) = serial ≤ n
HandsInUpTo n other = Unit {0}

-- ---- pending notifications

-- a confirmable notification waits for its acknowledgement.
abbrev pub IsOutstanding : Phase → Type 0
IsOutstanding (Outstanding sent_at timeout retransmissions bytes) = Unit {0}
IsOutstanding other = ⊥

-- a lease was granted less than EXCHANGE_LIFETIME before `now`, and has neither ended nor been
-- released.
abbrev pub IsTurnOut : ℕ → Phase → Type 0
IsTurnOut now (TurnOut number at missing) = now < at + window
IsTurnOut now other = ⊥

-- the last lease was released by a call at `now` or later, or it counts as released exactly at
-- `now`, EXCHANGE_LIFETIME after its grant.
abbrev pub IsGivenUpNow : ℕ → Phase → Type 0
IsGivenUpNow now (GivenUp at) = now ≤ at
IsGivenUpNow now (TurnOut number at missing) = now ≡ at + window
IsGivenUpNow now other = ⊥

-- the phase has the lease with this number, active or expired.
abbrev pub has_number_in : ℕ → Phase → Bool
has_number_in number (TurnOut own at missing) = own == number
has_number_in number other = false

-- the entry has the lease with this number, active or expired.
abbrev pub has_number : ℕ → Entry → Bool
has_number number o = has_number_in number o.phase

-- ---- the last notification

-- the call is a registration. The entry has no last notification, and its time is that of the call.
abbrev pub IsNewAt : ObserverCall → ObserverList → Entry → Type 0
IsNewAt (Register now to token request szx serial) t o = (o.id ≡ None) × (o.confirmed ≡ max t.time now)
IsNewAt other t o = ⊥

-- the time of the last confirmable notification after a notification at `now`. It is `now` if
-- `confirm_after` ms or more have passed since `before`, and else `before`.
abbrev pub confirmed_at : ℕ → ℕ → ℕ → ℕ
confirmed_at confirm_after now before = if nat_le (before + confirm_after) now then now else before

-- an entry `o` after a call has the same observer as `before`. The data of the last notification
-- are unchanged, or are those of the notification by the call.
abbrev pub KeepsLast : ObserverCall → ObserverList → Entry → Entry → Type 0
KeepsLast (Notify now turn id serial random bytes) t o before =
    (o ≡ before) ⊎ ((is_out turn (list_at_time now t) before ≡ true) × (interest_of o ≡ interest_of before) × (o.id ≡ Some id) × (o.confirmed ≡ confirmed_at t.confirm_after (max t.time now) before.confirmed))
KeepsLast other t o before = (interest_of o ≡ interest_of before) × (o.id ≡ before.id) × (o.confirmed ≡ before.confirmed)

-- ---- an acknowledgement

-- the last notification to this endpoint had this message ID, and waits for its acknowledgement.
abbrev pub IsAwaited : Endpoint → ℕ → Entry → Type 0
IsAwaited to id o = (o.endpoint ≡ to) × (o.id ≡ Some id) × IsOutstanding o.phase

-- `o` is the entry `before` after an acknowledgement: its phase is `Idle` if the acknowledgement
-- was awaited, and else it is unchanged.
abbrev pub IsAcknowledged : Endpoint → ℕ → Entry → Entry → Type 0
IsAcknowledged to id before o = (IsAwaited to id before → o ≡ record before { phase = Idle }) × ((IsAwaited to id before → ⊥) → o ≡ before)

-- ---- a registration

-- the entry is for this client's GET, and this revision was sent to the client. It has no lease and
-- no outstanding notification.
abbrev pub IsRegistrationOf : Endpoint → ArrayVec ℕ → Request → Option ℕ → ℕ → Entry → Type 0
IsRegistrationOf to token request szx serial o =
    (interest_of o ≡ record { endpoint = to; token = token; request = request; szx = szx }) × (o.serial ≡ serial) × (o.phase ≡ Idle)

-- the list is `others` with one more entry at the end, which has the property `P`.
abbrev pub StandsLast : List Entry → (Entry → Type 0) → List Entry → Type 0
StandsLast others P held = (o : Entry) × P o × (held ≡ others ++ o ∷ [])
