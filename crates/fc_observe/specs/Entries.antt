-- An entry in the list of observers of a slot (RFC 7641, section 4.1), and the transmission of its
-- notifications.
use Rattle.std.specs.Prelude.{ℕ, ◌+◌, ◌*◌, ◌%◌, ◌^◌, ◌==◌, ◌&&◌, nat_eq, nat_lt, nat_le, min, Bool, true, false, if◌then◌else◌, List, [], ◌∷◌, Option, Some, None}
use Rattle.std.specs.Cmp.Lexicographic.{pointwise}
use Rattle.arrayvec.specs.ArrayVec.{ArrayVec}
use Rattle.coap_msg.specs.declared.types.Emission.{Emission}
use Rattle.coap_msg.specs.declared.types.Endpoint.{Endpoint}
use Rattle.coap_msg.specs.Endpoints.{same_endpoint}
use Rattle.coap_msg.specs.Windows.{window, within_window}
use Rattle.fc_help.specs.Request.{Request}
use Rattle.fc_observe.specs.declared.entry.Entry.{Entry}
use Rattle.fc_observe.specs.declared.entry.Phase.{Phase}
use Rattle.fc_observe.specs.declared.entry.Phase.TheVariants.{Idle, GivenUp, TurnOut, Outstanding}
use Rattle.fc_observe.specs.declared.entry.Turn.{Turn}

-- the entry has this endpoint and token, which identify it.
abbrev pub is_entry_of : Endpoint → List ℕ → Entry → Bool
is_entry_of to token o = same_endpoint o.endpoint to && pointwise nat_eq o.token.items token

-- the optional message ID is present, and is `id`.
abbrev pub is_id : ℕ → Option ℕ → Bool
is_id id None = false
is_id id (Some own) = own == id

-- the entry's last notification went to this endpoint, with this message ID.
abbrev pub has_last_id : Endpoint → ℕ → Entry → Bool
has_last_id to id o = same_endpoint o.endpoint to && is_id id o.id

-- the entry changed by `f` if the test holds, and else unchanged.
abbrev pub changed_if : Bool → (Entry → Entry) → Entry → Entry
changed_if true f o = f o
changed_if false f o = o

-- ---- leases

-- the phase has the lease with this number, and the lease is active: it was granted less than
-- EXCHANGE_LIFETIME before `now`.
abbrev pub is_out_in : ℕ → ℕ → Phase → Bool
is_out_in now number (TurnOut own at missing) = (own == number) && within_window now at
is_out_in now number other = false

-- the entry has this lease of the slot, and the lease is active.
abbrev pub has_turn : ℕ → ℕ → Turn → Entry → Bool
has_turn slot now turn o = (turn.slot == slot) && is_out_in now turn.number o.phase

-- the phase has a lease, active or expired, whose snapshot found the slot empty.
abbrev pub has_missed_in : Phase → Bool
has_missed_in (TurnOut number at missing) = missing
has_missed_in other = false

-- the entry has a lease, active or expired, whose snapshot found the slot empty.
abbrev pub has_missed : Entry → Bool
has_missed o = has_missed_in o.phase

-- the phase is free: no lease is active, no notification is outstanding, and the last lease was
-- released before `now`. A lease that hasn't ended EXCHANGE_LIFETIME after its grant counts as
-- released at that time.
abbrev pub is_free : ℕ → Phase → Bool
is_free now Idle = true
is_free now (GivenUp at) = nat_lt at now
is_free now (TurnOut number at missing) = nat_lt (at + window) now
is_free now (Outstanding sent_at timeout retransmissions bytes) = false

-- the entry has a pending notification: the revision `notify_serial` is above the last revision
-- sent to the entry, and the entry's phase is free.
abbrev pub is_due : ℕ → ℕ → Entry → Bool
is_due now notify_serial o = nat_lt o.serial notify_serial && is_free now o.phase

-- the entry with a new lease, granted at `now`, whose snapshot is still to be taken.
abbrev pub with_turn : ℕ → ℕ → Entry → Entry
with_turn number now o = record o { phase = TurnOut number now false }

-- a lease whose snapshot found the slot empty is marked as missing; other phases don't change.
abbrev pub missed_phase : Phase → Phase
missed_phase (TurnOut number at missing) = TurnOut number at true
missed_phase other = other

-- the entry with its lease marked as missing, if it has a lease.
abbrev pub missed : Entry → Entry
missed o = record o { phase = missed_phase o.phase }

-- the entry with its lease released at `now`.
abbrev pub given_up : ℕ → Entry → Entry
given_up now o = record o { phase = GivenUp now }

-- ---- notifications

-- the next notification must be confirmable: `confirm_after` ms or more have passed since the
-- registration or the last confirmable notification.
abbrev pub must_confirm : ℕ → ℕ → Entry → Bool
must_confirm confirm_after now o = nat_le (o.confirmed + confirm_after) now

-- the timeout of the first transmission, in milliseconds (RFC 7252, section 4.2).
abbrev pub first_timeout : ℕ → ℕ
first_timeout random = 2000 + random % 1001

-- the entry after a notification with this message ID, revision and bytes, confirmable or not.
abbrev pub notified_by : Bool → ℕ → ℕ → ℕ → ℕ → ArrayVec ℕ → Entry → Entry
notified_by true now id serial random bytes o =
    record o { serial = serial; id = Some id; confirmed = now; phase = Outstanding now (first_timeout random) 0 bytes }
notified_by false now id serial random bytes o = record o { serial = serial; id = Some id; phase = Idle }

-- the entry after a notification, which is confirmable if it must be (RFC 7641, section 4.5).
abbrev pub notified : ℕ → ℕ → ℕ → ℕ → ℕ → ArrayVec ℕ → Entry → Entry
notified confirm_after now id serial random bytes o = notified_by (must_confirm confirm_after now o) now id serial random bytes o

-- the phase after an acknowledgement: an outstanding notification isn't outstanding any more.
abbrev pub acknowledged_phase : Phase → Phase
acknowledged_phase (Outstanding sent_at timeout retransmissions bytes) = Idle
acknowledged_phase other = other

-- the entry after an acknowledgement.
abbrev pub acknowledged : Entry → Entry
acknowledged o = record o { phase = acknowledged_phase o.phase }

-- ---- retransmission (RFC 7252, 4.2)

-- the timeout after this number of retransmissions: each one doubles it, at most four times.
abbrev pub backoff : ℕ → ℕ → ℕ
backoff timeout retransmissions = timeout * 2 ^ min retransmissions 4

-- the phase has an outstanding notification whose timeout has passed at `now`.
abbrev pub is_overdue_in : ℕ → Phase → Bool
is_overdue_in now (Outstanding sent_at timeout retransmissions bytes) = nat_le (sent_at + backoff timeout retransmissions) now
is_overdue_in now other = false

-- the entry has an outstanding notification whose timeout has passed at `now`.
abbrev pub is_overdue : ℕ → Entry → Bool
is_overdue now o = is_overdue_in now o.phase

-- the retransmission of the phase's notification, with the same bytes. `None` if no notification is
-- outstanding, or if it was retransmitted four times.
abbrev pub retransmission_in : Endpoint → Phase → Option Emission
retransmission_in to (Outstanding sent_at timeout retransmissions bytes) =
    if nat_lt retransmissions 4 then Some (record { to = to; bytes = bytes }) else None
retransmission_in to other = None

-- the retransmission of the entry's outstanding notification, if there is one.
abbrev pub retransmission : Entry → Option Emission
retransmission o = retransmission_in o.endpoint o.phase

-- the phase after a retransmission at `now`: the timeout starts again.
abbrev pub retransmitted_phase : ℕ → Phase → Phase
retransmitted_phase now (Outstanding sent_at timeout retransmissions bytes) = Outstanding now timeout (retransmissions + 1) bytes
retransmitted_phase now other = other

-- the entry after its notification was retransmitted at `now`.
abbrev pub retransmitted : ℕ → Entry → Entry
retransmitted now o = record o { phase = retransmitted_phase now o.phase }

-- an entry after its timeout: the notification was retransmitted, or the entry is removed if there
-- is no retransmission.
abbrev pub timed_out_by : Option Emission → ℕ → Entry → List Entry
timed_out_by None now o = []
timed_out_by (Some emission) now o = retransmitted now o ∷ []

-- an entry after its timeout: it is removed if it has no retransmission left.
abbrev pub timed_out : ℕ → Entry → List Entry
timed_out now o = timed_out_by (retransmission o) now o

-- ---- registration

-- an entry at its registration. The registration counts as a confirmable notification; no
-- notification was sent yet.
abbrev pub new_entry : ℕ → Endpoint → ArrayVec ℕ → Request → Option ℕ → ℕ → Entry
new_entry now to token request szx serial = record {
  endpoint = to;
  token = token;
  request = request;
  szx = szx;
  serial = serial;
  id = None;
  confirmed = now;
  phase = Idle;
}
