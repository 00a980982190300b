-- Calls on the observers of a slot, and the list after them.
use Rattle.std.specs.Prelude.{◌≡◌, ℕ, ◌&&◌, ◌⊎◌, max, Bool, true, false, nat_eq, List, [], ◌∷◌, Option}
use Rattle.std.specs.Cmp.Lexicographic.{pointwise}
use Rattle.std.specs.List.{Any}
use Rattle.arrayvec.specs.ArrayVec.{ArrayVec}
use Rattle.coap_msg.specs.declared.types.Endpoint.{Endpoint}
use Rattle.coap_msg.specs.Endpoints.{same_endpoint}
use Rattle.fc_help.specs.Request.{Request}
use Rattle.fc_observe.specs.declared.entry.Entry.{Entry}
use Rattle.fc_observe.specs.declared.entry.Turn.{Turn}
use Rattle.fc_observe.specs.Entries.{acknowledged, given_up, has_last_id, is_due, is_overdue, missed, new_entry, notified, retransmitted, with_turn}
use Rattle.fc_observe.specs.Observers.{ObserverList, after_ack, after_reset, after_tick, list_at_time, cancelled, gives_turn, is_out, no_observers, registered, turn_ended, turn_given, turn_given_up, turn_missed, turn_notified}

-- a call that may change the list, with its arguments.
pub data ObserverCall : Type 0 where
  Advance : (now : ℕ) → ObserverCall
  Register : (now : ℕ) (to : Endpoint) (token : ArrayVec ℕ) (request : Request) (szx : Option ℕ) (serial : ℕ) → ObserverCall
  Cancel : (to : Endpoint) (token : List ℕ) → ObserverCall
  NextDue : (now notify_serial : ℕ) → ObserverCall
  MarkMissing : (turn : Turn) → ObserverCall
  Notify : (now : ℕ) (turn : Turn) (id serial random : ℕ) (bytes : ArrayVec ℕ) → ObserverCall
  End : (turn : Turn) → ObserverCall
  GiveUp : (turn : Turn) (now : ℕ) → ObserverCall
  Reset : (to : Endpoint) (id : ℕ) → ObserverCall
  Acknowledge : (to : Endpoint) (id : ℕ) → ObserverCall
  Tick : (now : ℕ) → ObserverCall

-- the list after a call; the contract of the call uses the same definition.
abbrev pub observers_after : ObserverCall → ObserverList → ObserverList
observers_after (Advance now) t = list_at_time now t
observers_after (Register now to token request szx serial) t = registered to token request szx serial (list_at_time now t)
observers_after (Cancel to token) t = cancelled to token t
observers_after (NextDue now notify_serial) t = turn_given notify_serial (list_at_time now t)
observers_after (MarkMissing turn) t = turn_missed turn t
observers_after (Notify now turn id serial random bytes) t = turn_notified turn id serial random bytes (list_at_time now t)
observers_after (End turn) t = turn_ended turn t
observers_after (GiveUp turn now) t = turn_given_up turn (list_at_time now t)
observers_after (Reset to id) t = after_reset to id t
observers_after (Acknowledge to id) t = after_ack to id t
observers_after (Tick now) t = after_tick (list_at_time now t)

-- the list after these calls on `t`, the latest first.
abbrev pub after_calls : List ObserverCall → ObserverList → ObserverList
after_calls [] t = t
after_calls (c ∷ h) t = observers_after c (after_calls h t)

-- the list of a slot after these calls on a new list, the latest first.
abbrev pub observers : ℕ → ℕ → List ObserverCall → ObserverList
observers slot confirm_after h = after_calls h (no_observers slot confirm_after)

-- ---- the effect of a call on an entry

-- the call may change the entry, without removing the entry from the list.
abbrev pub may_change : ObserverCall → ObserverList → Entry → Bool
may_change (NextDue now notify_serial) t o = gives_turn notify_serial (list_at_time now t) && is_due (max t.time now) notify_serial o
may_change (MarkMissing turn) t o = is_out turn t o
may_change (Notify now turn id serial random bytes) t o = is_out turn (list_at_time now t) o
may_change (GiveUp turn now) t o = is_out turn (list_at_time now t) o
may_change (Acknowledge to id) t o = has_last_id to id o
may_change (Tick now) t o = is_overdue (max t.time now) o
may_change other t o = false

-- the entry after the call, if the call changes it.
abbrev pub changed_by : ObserverCall → ObserverList → Entry → Entry
changed_by (NextDue now notify_serial) t o = with_turn t.turns (max t.time now) o
changed_by (MarkMissing turn) t o = missed o
changed_by (Notify now turn id serial random bytes) t o = notified t.confirm_after (max t.time now) id serial random bytes o
changed_by (GiveUp turn now) t o = given_up (max t.time now) o
changed_by (Acknowledge to id) t o = acknowledged o
changed_by (Tick now) t o = retransmitted (max t.time now) o
changed_by other t o = o

-- the call is a registration, and the entry is the one that it makes.
abbrev pub IsRegisteredBy : ObserverCall → ObserverList → Entry → Type 0
IsRegisteredBy (Register now to token request szx serial) t o = o ≡ new_entry (max t.time now) to token request szx serial
IsRegisteredBy other t o = ⊥

-- the call is a registration of this endpoint and token.
abbrev pub is_registration_of : Endpoint → List ℕ → ObserverCall → Bool
is_registration_of to token (Register now from own request szx serial) = same_endpoint from to && pointwise nat_eq own.items token
is_registration_of to token other = false

-- an entry after a call: the call registered it, or it was in the list before the call. In the
-- second case the call changed it, or left it unchanged.
abbrev pub ComesFrom : ObserverCall → ObserverList → Entry → Type 0
ComesFrom c t o = IsRegisteredBy c t o ⊎ Any (λ before. (o ≡ before) ⊎ ((may_change c t before ≡ true) × (o ≡ changed_by c t before))) t.held
