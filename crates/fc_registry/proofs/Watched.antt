-- No slot has an observer if its shard isn't watched.
use Rattle.std.proofs.Common.{◌≡◌, ℕ, zero, suc, ◌+◌, ◌<◌, List, [], ◌∷◌, ◌++◌, length, map, set, get_or, Bool, true, false, Option, Some, None, refl, sym, ap, ◌∙◌, subst, ⊎_elim}
use Rattle.std.specs.Prelude.{◌&&◌, ◌||◌, find, if◌then◌else◌, is_none, is_some, max, nat_lt, not}
use Rattle.std.specs.List.{list_any}
use Rattle.std.proofs.lemmas.Bool.{and_right, cases_eq}
use Rattle.std.proofs.lemmas.List.{get_or-set_same, get_or-set_other, get_or_default}
use Rattle.coap_msg.specs.declared.types.Emission.{Emission}
use Rattle.coap_msg.specs.declared.types.Endpoint.{Endpoint}
use Rattle.fc_observe.specs.declared.entry.Entry.{Entry}
use Rattle.fc_observe.specs.declared.entry.Turn.{Turn}
use Rattle.fc_observe.specs.Calls.{Advance, observers_after}
use Rattle.fc_observe.specs.Entries.{is_due, is_overdue}
use Rattle.fc_observe.specs.Observers.{ObserverList, list_at_time, next_turn_by, no_observers}
use Rattle.fc_observe.proofs.Nobody.{EnterNone, EntersNone, stays_empty}
use Rattle.fc_registry.specs.Calls.{is_out_at, mark_missing_calls, turn_calls}
use Rattle.fc_ticket.specs.Notes.{keeps_observer, note_calls, serial_told, told_call}
use Rattle.fc_ticket.specs.Tickets.{Present, Ticket}
use Rattle.fc_registry.specs.Slots.{Shard}
use Rattle.fc_registry.specs.Watches.{AreWatched, has_due, has_overdue, is_idle, noticed_at, place_from, signal_call, watch_at}
use Rattle.fc_registry.proofs.Ahead.{mapped_at}

-- ---- calls that register no observer

missed_enters : (out : Bool) (turn : Turn) (present : Option Present) (at : ℕ) → EnterNone (mark_missing_calls out turn present ++ Advance at ∷ [])
missed_enters true turn None at = (tt, (tt, tt))
missed_enters true turn (Some p) at = (tt, tt)
missed_enters false turn present at = (tt, tt)

pub turn_enters : (turn : Turn) (at : ℕ) (present : Option Present) (w : ObserverList) → EnterNone (turn_calls turn at present w)
turn_enters turn at present w = missed_enters (is_out_at turn at w) turn present at

told_enters : (b : Bool) (turn : Turn) (id random at serial : ℕ) (e : Emission) → EntersNone (told_call b turn id random at serial e.bytes)
told_enters true turn id random at serial e = tt
told_enters false turn id random at serial e = tt

pub note_enters : (turn : Turn) (id random at : ℕ) (found : Option Ticket) (sent : Option Emission) → EnterNone (note_calls turn id random at found sent)
note_enters turn id random at found None = (tt, tt)
note_enters turn id random at found (Some e) = (told_enters (keeps_observer found) turn id random at (serial_told found) e, (tt, tt))

signal_enters : (reset : Bool) (to : Endpoint) (id : ℕ) → EntersNone (signal_call reset to id)
signal_enters true to id = tt
signal_enters false to id = tt

-- ---- places

-- if the observers at a place are replaced, by none if there were none, the flag still fits the
-- lists.
pub watched_there : (b : Bool) (ws : List ObserverList) (k : ℕ) (was w : ObserverList) → k < length ws → was ≡ get_or ws k was → (was.held ≡ [] →
    w.held ≡ []) → AreWatched b ws → AreWatched b (set ws k w)
watched_there true ws k was w lt is keeps none = tt
watched_there false ws k was w lt is keeps none = λ j.
    ⊎_elim
    (λ (same : j ≡ k). subst (λ (i : ℕ). (get_or (set ws k w) i (no_observers 0 0)).held ≡ []) (sym same)
    (ap (λ (l : ObserverList). l.held) (get_or-set_same ws k w (no_observers 0 0) lt)
    ∙ keeps (ap (λ (l : ObserverList). l.held) (is ∙ get_or_default ws k was (no_observers 0 0) lt) ∙ none k)))
    (λ (other : j ≡ k → ⊥). ap (λ (l : ObserverList). l.held) (get_or-set_other ws k j w (no_observers 0 0) other) ∙ none j)
    (cases_eq j k)

pub true_of_not : (b : Bool) → not b ≡ false → b ≡ true
true_of_not true is = refl
true_of_not false is = absurd (cc is)

-- if the observers at a place are replaced, the flag fits the lists once it is set for observers
-- there.
pub watched_if : (b some : Bool) (ws : List ObserverList) (k : ℕ) (was w : ObserverList) → k < length ws → was ≡ get_or ws k was → (some ≡ false →
    w.held ≡ []) → AreWatched b ws → AreWatched (b || some) (set ws k w)
watched_if true some ws k was w lt is seen none = tt
watched_if false true ws k was w lt is seen none = tt
watched_if false false ws k was w lt is seen none = watched_there false ws k was w lt is (λ old. seen refl) none

-- a signal to the observers at each place keeps an unwatched shard without observers.
pub watched_everywhere : (b reset : Bool) (to : Endpoint) (id : ℕ) (ws : List ObserverList) → AreWatched b ws →
    AreWatched b (map (observers_after (signal_call reset to id)) ws)
watched_everywhere true reset to id ws none = tt
watched_everywhere false reset to id ws none = λ k.
    let c = signal_call reset to id in
    mapped_at (observers_after c) (λ (w : ObserverList). w.held ≡ []) ws k (λ w. stays_empty c w (signal_enters reset to id)) refl (none k)

-- ---- a shard that isn't watched is idle

nowhere : (p : ℕ → Bool) (n k : ℕ) → ((j : ℕ) → p j ≡ false) → place_from p n k ≡ None
nowhere p zero k none = refl
nowhere p (suc n) k none = ap (λ (b : Bool). if b then Some k else place_from p n (k + 1)) (none k) ∙ nowhere p n (k + 1) none

overdue_nowhere : (shard : Shard) → AreWatched false shard.watches → (k : ℕ) → has_overdue shard k ≡ false
overdue_nowhere shard none k = ap (λ (os : List Entry). is_some (find (is_overdue (max (watch_at shard k).time shard.now)) os)) (none k)

due_nowhere : (shard : Shard) → AreWatched false shard.watches → (k : ℕ) → has_due shard k ≡ false
due_nowhere shard none k =
    let w = list_at_time shard.now (watch_at shard k) in
    let due = is_due w.time (noticed_at shard k) in
    let nobody : list_any due w.held ≡ false = ap (list_any due) (none k) in
    ap (λ (b : Bool). is_some (next_turn_by b w)) (and_right (nat_lt w.turns 18446744073709551615) (list_any due w.held) nobody)

pub unwatched_idle : (b : Bool) (ws : List ObserverList) (shard : Shard) → b ≡ false → AreWatched b ws → ws ≡ shard.watches → is_idle shard ≡ true
unwatched_idle b ws shard is watched same =
    let none = subst (AreWatched false) same (subst (λ (x : Bool). AreWatched x ws) is watched) in
    λ i. is_none (nowhere (has_overdue shard) 8 0 (overdue_nowhere shard none) i) && is_none (nowhere (has_due shard) 8 0 (due_nowhere shard none) i)
