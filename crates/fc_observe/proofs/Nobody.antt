-- A list without observers: only a registration enters one.
use Rattle.std.proofs.Common.{◌≡◌, ℕ, List, [], ◌∷◌, Bool, true, false, ap}
use Rattle.std.specs.Prelude.{max}
use Rattle.fc_observe.specs.declared.entry.Entry.{Entry}
use Rattle.fc_observe.specs.Calls.{ObserverCall, Advance, Register, Cancel, NextDue, MarkMissing, Notify, End, GiveUp, Reset, Acknowledge, Tick, after_calls, observers_after}
use Rattle.fc_observe.specs.Entries.{acknowledged, given_up, has_last_id, is_due, is_entry_of, is_overdue, missed, notified, timed_out, with_turn}
use Rattle.fc_observe.specs.Observers.{ObserverList, at_each, at_first, list_at_time, gives_turn, is_out, turn_given_by, without_those}

-- the call isn't a registration
abbrev pub EntersNone : ObserverCall → Type 0
EntersNone (Register now to token request szx serial) = ⊥
EntersNone other = Unit {0}

given_none : (t : ObserverList) (notify_serial : ℕ) (b : Bool) → t.held ≡ [] → (turn_given_by b notify_serial t).held ≡ []
given_none t notify_serial true none = ap (at_first (is_due t.time notify_serial) (λ (o : Entry). with_turn t.turns t.time o ∷ [])) none
given_none t notify_serial false none = none

pub stays_empty : (c : ObserverCall) (t : ObserverList) → EntersNone c → t.held ≡ [] → (observers_after c t).held ≡ []
stays_empty (Advance now) t enters none = none
stays_empty (Register now to token request szx serial) t enters none = absurd enters
stays_empty (Cancel to token) t enters none = ap (without_those (is_entry_of to token)) none
stays_empty (NextDue now notify_serial) t enters none = given_none (list_at_time now t) notify_serial (gives_turn notify_serial (list_at_time now t)) none
stays_empty (MarkMissing turn) t enters none = ap (at_first (is_out turn t) (λ (o : Entry). missed o ∷ [])) none
stays_empty (Notify now turn id serial random bytes) t enters none =
    ap (at_first (is_out turn (list_at_time now t)) (λ (o : Entry). notified t.confirm_after (max t.time now) id serial random bytes o ∷ [])) none
stays_empty (End turn) t enters none = ap (at_first (is_out turn t) (λ (o : Entry). [])) none
stays_empty (GiveUp turn now) t enters none = ap (at_first (is_out turn (list_at_time now t)) (λ (o : Entry). given_up (max t.time now) o ∷ [])) none
stays_empty (Reset to id) t enters none = ap (without_those (has_last_id to id)) none
stays_empty (Acknowledge to id) t enters none = ap (at_each (has_last_id to id) acknowledged) none
stays_empty (Tick now) t enters none = ap (at_first (is_overdue (max t.time now)) (timed_out (max t.time now))) none

abbrev pub EnterNone : List ObserverCall → Type 0
EnterNone [] = Unit {0}
EnterNone (c ∷ cs) = EntersNone c × EnterNone cs

pub empty_after : (cs : List ObserverCall) (t : ObserverList) → EnterNone cs → t.held ≡ [] → (after_calls cs t).held ≡ []
empty_after [] t enter none = none
empty_after (c ∷ cs) t enter none = stays_empty c (after_calls cs t) enter.0 (empty_after cs t enter.1 none)
