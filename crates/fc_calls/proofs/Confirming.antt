-- No call changes the time after which the notifications of a shard are confirmable again.
use Rattle.std.proofs.Common.{◌≡◌, ◌∙◌, ℕ, zero, suc, Bool, true, false, List, [], ◌∷◌, Option, None, Some, ap, refl}
use Rattle.std.specs.Prelude.{if◌then◌else◌, map, slice_index_or, slice_set}
use Rattle.fc_observe.specs.Calls.{ObserverCall, NextDue, Tick, after_calls, observers_after}
use Rattle.fc_observe.specs.Observers.{ObserverList, list_at_time, gives_turn, no_observers, turn_given_by}
use Rattle.fc_registry.specs.Slots.{Shard}
use Rattle.fc_registry.specs.Watches.{after_due, noticed_at, shard_after_tick, signalled, watches_called, with_calls}
use Rattle.fc_calls.specs.Kept.{confirm_times}

abbrev times : List ObserverList → List ℕ
times ws = map (λ w. w.confirm_after) ws

turn_keeps : (gives : Bool) (notify_serial : ℕ) (w : ObserverList) → (turn_given_by gives notify_serial w).confirm_after ≡ w.confirm_after
turn_keeps true notify_serial w = refl
turn_keeps false notify_serial w = refl

-- a call on the observers of a slot leaves this time of the list unchanged.
call_keeps : (c : ObserverCall) (w : ObserverList) → (observers_after c w).confirm_after ≡ w.confirm_after
call_keeps (NextDue now notify_serial) w = turn_keeps (gives_turn notify_serial (list_at_time now w)) notify_serial (list_at_time now w)
call_keeps other w = refl

calls_keep : (cs : List ObserverCall) (w : ObserverList) → (after_calls cs w).confirm_after ≡ w.confirm_after
calls_keep [] w = refl
calls_keep (c ∷ cs) w = call_keeps c (after_calls cs w) ∙ calls_keep cs w

-- if the list at a place is replaced by one with the same time, the times of all lists are
-- unchanged.
set_keeps : (ws : List ObserverList) (k : ℕ) (d w : ObserverList) → w.confirm_after ≡ (slice_index_or ws k d).confirm_after → times (slice_set ws k w) ≡ times ws
set_keeps [] k d w same = refl
set_keeps (v ∷ ws) zero d w same = ap (λ (t : ℕ). t ∷ times ws) same
set_keeps (v ∷ ws) (suc k) d w same = ap (λ (ts : List ℕ). v.confirm_after ∷ ts) (set_keeps ws k d w same)

-- calls on the list at a place leave the times of all lists unchanged.
called_keep : (cs : List ObserverCall) (k : ℕ) (ws : List ObserverList) → times (watches_called cs k ws) ≡ times ws
called_keep [] k ws = refl
called_keep (c ∷ cs) k ws =
    let at = slice_index_or ws k (no_observers 0 0) in
    set_keeps ws k (no_observers 0 0) (after_calls (c ∷ cs) at) (calls_keep (c ∷ cs) at)

-- a call on each list leaves the times of all lists unchanged.
mapped_keep : (c : ObserverCall) (ws : List ObserverList) → times (map (observers_after c) ws) ≡ times ws
mapped_keep c [] = refl
mapped_keep c (w ∷ ws) = ap (λ (t : ℕ). t ∷ times (map (observers_after c) ws)) (call_keeps c w) ∙ ap (λ (ts : List ℕ). w.confirm_after ∷ ts) (mapped_keep c ws)

-- ---- shards

pub watches_confirm : (s new : Shard) → new.watches ≡ s.watches → confirm_times new ≡ confirm_times s
watches_confirm s new same = ap times same

pub calls_confirm : (cs : List ObserverCall) (n : ℕ) (s new : Shard) → new ≡ with_calls cs n s → confirm_times new ≡ confirm_times s
calls_confirm cs n s new after = ap confirm_times after ∙ called_keep cs _ s.watches

pub signal_confirms : (c : ObserverCall) (s new : Shard) → new ≡ signalled c s → confirm_times new ≡ confirm_times s
signal_confirms c s new after = ap confirm_times after ∙ mapped_keep c s.watches

tick_keeps : (place : Option ℕ) (s : Shard) → confirm_times (shard_after_tick place s) ≡ confirm_times s
tick_keeps None s = refl
tick_keeps (Some k) s = called_keep (Tick s.now ∷ []) k s.watches

pub tick_confirms : (place : Option ℕ) (s new : Shard) → new ≡ shard_after_tick place s → confirm_times new ≡ confirm_times s
tick_confirms place s new after = ap confirm_times after ∙ tick_keeps place s

due_keeps : (place : Option ℕ) (s : Shard) → confirm_times (after_due place s) ≡ confirm_times s
due_keeps None s = refl
due_keeps (Some k) s = called_keep (NextDue s.now (noticed_at s k) ∷ []) k s.watches

pub due_confirms : (place : Option ℕ) (s new : Shard) → new ≡ after_due place s → confirm_times new ≡ confirm_times s
due_confirms place s new after = ap confirm_times after ∙ due_keeps place s

idle_keeps : (idle : Bool) (s at : Shard) → at.watches ≡ s.watches → confirm_times (if idle then at else s) ≡ confirm_times s
idle_keeps true s at same = ap times same
idle_keeps false s at same = refl

pub idle_confirms : (idle : Bool) (s at new : Shard) → at.watches ≡ s.watches → new ≡ (if idle then at else s) → confirm_times new ≡ confirm_times s
idle_confirms idle s at new same after = ap confirm_times after ∙ idle_keeps idle s at same
