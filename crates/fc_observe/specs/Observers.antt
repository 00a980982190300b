-- The list of observers of a slot (RFC 7641, section 4.1), and the effect of each call on it.
use Rattle.std.specs.Prelude.{ℕ, ◌+◌, ◌&&◌, nat_lt, max, Bool, true, false, not, if◌then◌else◌, List, [], ◌∷◌, ◌++◌, length, map, filter, find, Option, Some, None}
use Rattle.std.specs.List.{list_any}
use Rattle.arrayvec.specs.ArrayVec.{ArrayVec}
use Rattle.coap_msg.specs.declared.types.Emission.{Emission}
use Rattle.coap_msg.specs.declared.types.Endpoint.{Endpoint}
use Rattle.fc_help.specs.Request.{Request}
use Rattle.fc_observe.specs.declared.entry.Entry.{Entry}
use Rattle.fc_observe.specs.declared.entry.Turn.{Turn}
use Rattle.fc_observe.specs.declared.observers.Registered.{Registered}
use Rattle.fc_observe.specs.declared.observers.Registered.TheVariants.{Entered, Replaced, Full}
use Rattle.fc_observe.specs.declared.observers.Ticked.{Ticked}
use Rattle.fc_observe.specs.declared.observers.Ticked.TheVariants.{Resend, Removed, Quiet}
use Rattle.fc_observe.specs.Entries.{acknowledged, changed_if, given_up, has_last_id, has_missed, has_turn, is_due, is_entry_of, is_overdue, missed, must_confirm, new_entry, notified, retransmission, timed_out, with_turn}

-- a list has its slot, the interval of confirmable notifications in ms, and the greatest time that
-- was passed to the list. It also has the number of leases granted so far, and the entries in order
-- of registration.
pub record ObserverList : Type 0 where
  pub slot : ℕ
  pub confirm_after : ℕ
  pub time : ℕ
  pub turns : ℕ
  pub held : List Entry

-- a new list, without entries.
abbrev pub no_observers : ℕ → ℕ → ObserverList
no_observers slot confirm_after = record { slot = slot; confirm_after = confirm_after; time = 0; turns = 0; held = [] }

-- the list with its time advanced to `now`, or with its time unchanged if `now` is earlier.
abbrev pub list_at_time : ℕ → ObserverList → ObserverList
list_at_time now t = record t { time = max t.time now }

-- the list with these entries.
abbrev pub with_held : List Entry → ObserverList → ObserverList
with_held held t = record t { held = held }

-- ---- lists of entries

-- the entries that don't pass the test.
abbrev pub without_those : (Entry → Bool) → List Entry → List Entry
without_those p held = filter (λ o. not (p o)) held

-- the first entry that passes the test is replaced by the entries that `g` returns for it; the
-- others don't change.
abbrev pub at_first : (Entry → Bool) → (Entry → List Entry) → List Entry → List Entry
at_first p g [] = []
at_first p g (o ∷ os) = if p o then g o ++ os else o ∷ at_first p g os

-- f is applied to each entry that passes the test; the others don't change.
abbrev pub at_each : (Entry → Bool) → (Entry → Entry) → List Entry → List Entry
at_each p f held = map (λ o. changed_if (p o) f o) held

-- ---- registration

-- the result of a registration. If an entry of the same endpoint and token exists, it is replaced.
-- If not, the registration is entered if there are fewer than 32 entries, and else refused.
abbrev pub registration_by : Bool → ℕ → Registered
registration_by true count = Replaced
registration_by false count = if nat_lt count 32 then Entered else Full

-- the result of a registration of this endpoint and token.
abbrev pub registration : Endpoint → List ℕ → ObserverList → Registered
registration to token t = registration_by (list_any (is_entry_of to token) t.held) (length t.held)

-- the entries after a registration. Unless it is refused, the new entry is the last, and no other
-- entry has this endpoint and token.
abbrev pub entered_by : Registered → Endpoint → List ℕ → Entry → List Entry → List Entry
entered_by Full to token o held = held
entered_by Entered to token o held = without_those (is_entry_of to token) held ++ o ∷ []
entered_by Replaced to token o held = without_those (is_entry_of to token) held ++ o ∷ []

-- the list after a registration.
abbrev pub registered : Endpoint → ArrayVec ℕ → Request → Option ℕ → ℕ → ObserverList → ObserverList
registered to token request szx serial t = with_held (entered_by (registration to token.items t) to token.items (new_entry t.time to token request szx serial) t.held) t

-- the list after a cancellation (RFC 7641, section 3.6).
abbrev pub cancelled : Endpoint → List ℕ → ObserverList → ObserverList
cancelled to token t = with_held (without_those (is_entry_of to token) t.held) t

-- ---- leases

-- an observer has a pending notification, and fewer than 2^64 - 1 leases were granted.
abbrev pub gives_turn : ℕ → ObserverList → Bool
gives_turn notify_serial t = nat_lt t.turns 18446744073709551615 && list_any (is_due t.time notify_serial) t.held

-- the next lease, if one is granted. The number of the lease is the number of leases granted
-- before.
abbrev pub next_turn_by : Bool → ObserverList → Option Turn
next_turn_by true t = Some (record { slot = t.slot; number = t.turns })
next_turn_by false t = None

-- the lease that is granted for the revision `notify_serial`, if one is.
abbrev pub next_turn : ℕ → ObserverList → Option Turn
next_turn notify_serial t = next_turn_by (gives_turn notify_serial t) t

-- the list after the first observer with a pending notification got a lease, if one is granted.
abbrev pub turn_given_by : Bool → ℕ → ObserverList → ObserverList
turn_given_by true notify_serial t = record t { turns = t.turns + 1; held = at_first (is_due t.time notify_serial) (λ o. with_turn t.turns t.time o ∷ []) t.held }
turn_given_by false notify_serial t = t

-- the list after a lease is granted for the revision `notify_serial`, if one is.
abbrev pub turn_given : ℕ → ObserverList → ObserverList
turn_given notify_serial t = turn_given_by (gives_turn notify_serial t) notify_serial t

-- the entry has this lease, and the lease is active.
abbrev pub is_out : Turn → ObserverList → Entry → Bool
is_out turn t o = has_turn t.slot t.time turn o

-- the first entry that has this lease, if the lease is active.
abbrev pub entry_out : Turn → ObserverList → Option Entry
entry_out turn t = find (is_out turn t) t.held

-- the list with this active lease marked as missing: its snapshot found the slot empty.
abbrev pub turn_missed : Turn → ObserverList → ObserverList
turn_missed turn t = with_held (at_first (is_out turn t) (λ o. missed o ∷ []) t.held) t

-- whether the entry has a lease whose snapshot found the slot empty; `false` if there is no entry.
abbrev pub is_missing_by : Option Entry → Bool
is_missing_by None = false
is_missing_by (Some o) = has_missed o

-- whether the snapshot of this lease found the slot empty; `false` if the lease isn't active.
abbrev pub is_missing : Turn → ObserverList → Bool
is_missing turn t = is_missing_by (entry_out turn t)

-- whether the entry's next notification must be confirmable; `false` if there is no entry.
abbrev pub must_confirm_by : Option Entry → ℕ → ℕ → Bool
must_confirm_by None confirm_after now = false
must_confirm_by (Some o) confirm_after now = must_confirm confirm_after now o

-- whether the notification for this lease must be confirmable; `false` if the lease isn't active.
abbrev pub must_confirm_turn : Turn → ObserverList → Bool
must_confirm_turn turn t = must_confirm_by (entry_out turn t) t.confirm_after t.time

-- the list after a notification for this active lease, which ends the lease.
abbrev pub turn_notified : Turn → ℕ → ℕ → ℕ → ArrayVec ℕ → ObserverList → ObserverList
turn_notified turn id serial random bytes t = with_held (at_first (is_out turn t) (λ o. notified t.confirm_after t.time id serial random bytes o ∷ []) t.held) t

-- the list without the entry that has this active lease.
abbrev pub turn_ended : Turn → ObserverList → ObserverList
turn_ended turn t = with_held (at_first (is_out turn t) (λ o. []) t.held) t

-- the list with this active lease released.
abbrev pub turn_given_up : Turn → ObserverList → ObserverList
turn_given_up turn t = with_held (at_first (is_out turn t) (λ o. given_up t.time o ∷ []) t.held) t

-- ---- signals and time

-- the list after a Reset, which removes each entry whose last notification went to this endpoint
-- with this message ID.
abbrev pub after_reset : Endpoint → ℕ → ObserverList → ObserverList
after_reset to id t = with_held (without_those (has_last_id to id) t.held) t

-- the list after an Acknowledgement, which ends the wait of each entry whose last notification
-- went to this endpoint with this message ID.
abbrev pub after_ack : Endpoint → ℕ → ObserverList → ObserverList
after_ack to id t = with_held (at_each (has_last_id to id) acknowledged t.held) t

-- the first entry whose notification timed out.
abbrev pub overdue_entry : ObserverList → Option Entry
overdue_entry t = find (is_overdue t.time) t.held

-- the result of a tick for a notification that timed out, by its retransmission. If there is none,
-- the entry is removed.
abbrev pub ticked_by : Option Emission → Ticked
ticked_by None = Removed
ticked_by (Some emission) = Resend emission

-- the result of a tick, by the first entry whose notification timed out, if there is one.
abbrev pub ticked_at : Option Entry → Ticked
ticked_at None = Quiet
ticked_at (Some o) = ticked_by (retransmission o)

-- the result of a tick at the list's time.
abbrev pub ticked : ObserverList → Ticked
ticked t = ticked_at (overdue_entry t)

-- the list after a tick at the list's time.
abbrev pub after_tick : ObserverList → ObserverList
after_tick t = with_held (at_first (is_overdue t.time) (timed_out t.time) t.held) t
