-- The observers of a shard's slots, and the calls on them.
use Rattle.std.specs.Prelude.{◌≡◌, ℕ, zero, suc, ◌+◌, ◌*◌, ◌/◌, ◌<◌, ◌≤◌, Bool, true, false, if◌then◌else◌, Option, Some, None, is_none, is_some, ◌&&◌, List, [], ◌∷◌, ◌++◌, length, map, max, slice_index_or, slice_set}
use Rattle.std.specs.List.{All}
use Rattle.coap_msg.specs.declared.types.Endpoint.{Endpoint}
use Rattle.fc_observe.specs.declared.entry.Turn.{Turn}
use Rattle.fc_observe.specs.declared.observers.Ticked.{Ticked}
use Rattle.fc_observe.specs.declared.observers.Ticked.TheVariants.{Quiet}
use Rattle.fc_observe.specs.Calls.{ObserverCall, Acknowledge, GiveUp, NextDue, Reset, Tick, after_calls, observers_after}
use Rattle.fc_observe.specs.Observers.{ObserverList, list_at_time, overdue_entry, next_turn, no_observers, ticked}
use Rattle.fc_observe.specs.Quiet.{AreIdleUntil}
use Rattle.fc_registry.specs.Slots.{Shard, Slot, new_slot}

-- the lists of observers at the first places of a new shard. The list at place k is that of slot 8
-- k + index.
abbrev pub new_watches : ℕ → ℕ → ℕ → List ObserverList
new_watches index confirm_after zero = []
new_watches index confirm_after (suc k) = new_watches index confirm_after k ++ no_observers (8 * k + index) confirm_after ∷ []

-- the shard after this time was passed to it; its time never goes back.
abbrev pub at_time : Shard → ℕ → Shard
at_time shard now = record shard { now = max shard.now now }

-- the observers of the slot at a place.
abbrev pub watch_at : Shard → ℕ → ObserverList
watch_at shard k = slice_index_or shard.watches k (no_observers 0 0)

-- how many observers each slot has, by place.
abbrev pub observer_counts : Shard → List ℕ
observer_counts shard = map (λ w. length w.held) shard.watches

-- the notify serial of the slot at a place.
abbrev pub noticed_at : Shard → ℕ → ℕ
noticed_at shard k = (slice_index_or shard.slots k (new_slot 0)).notify_serial

-- the shard after a call on the observers at place k; the observers at other places are unchanged.
abbrev pub watch_called : ObserverCall → ℕ → Shard → Shard
watch_called c k shard = record shard { watches = slice_set shard.watches k (observers_after c (watch_at shard k)) }

-- the observer lists of all places, after these calls (the latest first) on the list at place k;
-- the other lists are unchanged.
abbrev pub watches_called : List ObserverCall → ℕ → List ObserverList → List ObserverList
watches_called [] k watches = watches
watches_called (c ∷ cs) k watches = slice_set watches k (after_calls (c ∷ cs) (slice_index_or watches k (no_observers 0 0)))

-- the shard after these calls on the observers of slot n; the observers of other slots are
-- unchanged.
abbrev pub with_calls : List ObserverCall → ℕ → Shard → Shard
with_calls cs n shard = record shard { watches = watches_called cs (n / 8) shard.watches }

-- the first place that passes the test, of the n places from k on.
abbrev pub place_from : (ℕ → Bool) → ℕ → ℕ → Option ℕ
place_from p zero k = None
place_from p (suc n) k = if p k then Some k else place_from p n (k + 1)

-- ---- time

-- whether a notification at place k has timed out.
abbrev pub has_overdue : Shard → ℕ → Bool
has_overdue shard k = is_some (overdue_entry (list_at_time shard.now (watch_at shard k)))

-- the first place with a notification that has timed out, if there is one.
abbrev pub overdue_place : Shard → Option ℕ
overdue_place shard = place_from (has_overdue shard) 8 0

-- the effect of a tick at a place; none without a place.
abbrev pub ticked_in : Option ℕ → Shard → Ticked
ticked_in None shard = Quiet
ticked_in (Some k) shard = ticked (list_at_time shard.now (watch_at shard k))

-- the shard after a tick at a place; without a place, it is unchanged.
abbrev pub shard_after_tick : Option ℕ → Shard → Shard
shard_after_tick None shard = shard
shard_after_tick (Some k) shard = watch_called (Tick shard.now) k shard

-- ---- leases

-- whether an observer at place k has a pending notification.
abbrev pub has_due : Shard → ℕ → Bool
has_due shard k = is_some (next_turn (noticed_at shard k) (list_at_time shard.now (watch_at shard k)))

-- the first place with an observer that has a pending notification, if there is one.
abbrev pub due_place : Shard → Option ℕ
due_place shard = place_from (has_due shard) 8 0

-- whether place k is idle: no notification there has timed out, and no observer there has a pending
-- one.
abbrev pub is_idle_at : Shard → ℕ → Bool
is_idle_at shard k =
    is_none (overdue_entry (list_at_time shard.now (watch_at shard k))) && is_none (next_turn (noticed_at shard k) (list_at_time shard.now (watch_at shard k)))

-- whether the shard is idle: no notification in it has timed out, and no observer has a pending
-- one.
abbrev pub is_idle : Shard → Bool
is_idle shard = is_none (overdue_place shard) && is_none (due_place shard)

-- the shard after a lease was granted at this place; without a place, it is unchanged.
abbrev pub after_due : Option ℕ → Shard → Shard
after_due None shard = shard
after_due (Some k) shard = watch_called (NextDue shard.now (noticed_at shard k)) k shard

-- the shard after a lease was released.
abbrev pub after_given_up : Turn → Shard → Shard
after_given_up turn shard = watch_called (GiveUp turn shard.now) (turn.slot / 8) shard

-- ---- signals

-- a Reset message or an Acknowledgement, as a call on the observers of a slot.
abbrev pub signal_call : Bool → Endpoint → ℕ → ObserverCall
signal_call true to id = Reset to id
signal_call false to id = Acknowledge to id

-- the shard after a signal, which is a call on the observers of every slot.
abbrev pub signalled : ObserverCall → Shard → Shard
signalled c shard = record shard { watches = map (observers_after c) shard.watches }

-- ---- idle shards

-- if the flag says that the shard isn't watched, no slot has an observer.
abbrev pub AreWatched : Bool → List ObserverList → Type 0
AreWatched true watches = Unit {0}
AreWatched false watches = (k : ℕ) → (slice_index_or watches k (no_observers 0 0)).held ≡ []

-- before this time no notification at any place has timed out, and no observer has a pending one,
-- unless the shard is called.
abbrev pub StaysIdleUntil : ℕ → Shard → Type 0
StaysIdleUntil until shard = (k : ℕ) → k < 8 → AreIdleUntil until (noticed_at shard k) (watch_at shard k).held

-- ---- serials sent to observers

-- no observer in the list was sent a serial above this.
abbrev pub IsSentUpTo : ℕ → ObserverList → Type 0
IsSentUpTo serial w = All (λ o. o.serial ≤ serial) w.held

-- at each place, no observer was sent a serial above that of the slot.
abbrev pub AreSentUpTo : List Slot → List ObserverList → Type 0
AreSentUpTo slots watches = (k : ℕ) → IsSentUpTo (slice_index_or slots k (new_slot 0)).serial (slice_index_or watches k (no_observers 0 0))
