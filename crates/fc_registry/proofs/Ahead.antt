-- No observer was sent a serial above that of its slot.
use Rattle.std.proofs.Common.{◌≡◌, ℕ, zero, suc, ◌<◌, ◌≤◌, List, [], ◌∷◌, ◌++◌, length, map, set, get_or, Bool, true, false, Option, Some, None, refl, sym, ap, ◌∙◌, subst, arith, ⊎_elim}
use Rattle.std.specs.Prelude.{if◌then◌else◌, nat_lt}
use Rattle.std.specs.List.{All}
use Rattle.std.proofs.lemmas.Bool.{cases_eq}
use Rattle.std.proofs.lemmas.List.{get_or-set_same, get_or-set_other, get_or-map, get_or_default, length-map, map-set, set-get_or}
use Rattle.std.proofs.lemmas.List.Elements.{All-nil, All-weaker}
use Rattle.coap_msg.specs.declared.types.Emission.{Emission}
use Rattle.coap_msg.specs.declared.types.Endpoint.{Endpoint}
use Rattle.fc_kinds.specs.Meaning.{Program}
use Rattle.fc_machine.specs.Ran.{Ran}
use Rattle.fc_observe.specs.declared.entry.Entry.{Entry}
use Rattle.fc_observe.specs.declared.entry.Turn.{Turn}
use Rattle.fc_observe.specs.Calls.{Advance, ObserverCall, after_calls, observers_after}
use Rattle.fc_observe.specs.Laws.{HandsInUpTo}
use Rattle.fc_observe.specs.Observers.{ObserverList, no_observers}
use Rattle.fc_observe.proofs.Serials.{serials_below}
use Rattle.fc_registry.specs.declared.commit.Committed.{Committed as Answer}
use Rattle.fc_registry.specs.declared.commit.Committed.TheVariants.{Done, Overtaken, Ended, Stranger}
use Rattle.fc_registry.specs.declared.commit.CommitOutcome.{CommitOutcome}
use Rattle.fc_registry.specs.declared.commit.CommitOutcome.TheVariants.{Writes, Keeps, Overtakes, Ends}
use Rattle.fc_ticket.specs.declared.note.Noted.{Noted}
use Rattle.fc_ticket.specs.declared.note.Noted.TheVariants as noted
use Rattle.fc_ticket.specs.declared.note.Notification.{Notification}
use Rattle.fc_ticket.specs.declared.note.Notification.TheVariants as tells
use Rattle.fc_registry.specs.declared.slot.SlotState.{SlotState}
use Rattle.fc_ticket.specs.declared.job.InitialVars.{InitialVars}
use Rattle.fc_registry.specs.Calls.{IsCommit, IsOwnCommit, clear_by, commit_calls, commits, install_in, is_out_at, mark_missing_calls, put_by, remove_from, turn_calls}
use Rattle.fc_ticket.specs.Registrations.{is_cancellation, is_registration, observe_calls_by}
use Rattle.fc_registry.specs.Changes.{after_changes}
use Rattle.fc_ticket.specs.Notes.{IsNotedIn, keeps_observer, note_calls, sent_of, ticket_told, told_call}
use Rattle.fc_ticket.specs.Tickets.{Present, Ticket}
use Rattle.fc_registry.specs.Slots.{Slot, last_serial, new_slot}
use Rattle.fc_registry.specs.Views.{as_seen}
use Rattle.fc_registry.specs.Watches.{AreSentUpTo, IsSentUpTo, new_watches, signal_call}

-- ---- calls on the observers of a slot

abbrev pub AreUpTo : ℕ → List ObserverCall → Type 0
AreUpTo n [] = Unit {0}
AreUpTo n (c ∷ cs) = HandsInUpTo n c × AreUpTo n cs

pub sent_after : (n : ℕ) (cs : List ObserverCall) (w : ObserverList) → AreUpTo n cs → IsSentUpTo n w → IsSentUpTo n (after_calls cs w)
sent_after n [] w up sent = sent
sent_after n (c ∷ cs) w up sent = serials_below n c (after_calls cs w) up.0 (sent_after n cs w up.1 sent)

pub sent_more : (m n : ℕ) (w : ObserverList) → m ≤ n → IsSentUpTo m w → IsSentUpTo n w
sent_more m n w le sent = All-weaker (λ (o : Entry). o.serial ≤ m) (λ (o : Entry). o.serial ≤ n) (λ o low. omega (arith, low, le)) w.held sent

missed_in : (n : ℕ) (out : Bool) (turn : Turn) (present : Option Present) (at : ℕ) → AreUpTo n (mark_missing_calls out turn present ++ Advance at ∷ [])
missed_in n true turn None at = (tt, (tt, tt))
missed_in n true turn (Some p) at = (tt, tt)
missed_in n false turn present at = (tt, tt)

pub turn_in : (n : ℕ) (turn : Turn) (at : ℕ) (present : Option Present) (w : ObserverList) → AreUpTo n (turn_calls turn at present w)
turn_in n turn at present w = missed_in n (is_out_at turn at w) turn present at

pub signal_in : (n : ℕ) (reset : Bool) (to : Endpoint) (id : ℕ) → HandsInUpTo n (signal_call reset to id)
signal_in n true to id = tt
signal_in n false to id = tt

-- ---- a commit

observed_in : (n : ℕ) (t : Ticket) → t.serial ≤ n → (b c : Bool) (now : ℕ) → AreUpTo n (observe_calls_by b c now t)
observed_in n t le true c now = (le, tt)
observed_in n t le false true now = (tt, tt)
observed_in n t le false false now = tt

kept_in : (n : ℕ) (t : Ticket) → t.serial ≤ n → (changed : Bool) (now : ℕ) → AreUpTo n (if changed then [] else observe_calls_by (is_registration t) (is_cancellation t) now t)
kept_in n t le true now = tt
kept_in n t le false now = observed_in n t le (is_registration t) (is_cancellation t) now

commit_in : (n : ℕ) (t : Ticket) → t.serial ≤ n → (c : Answer) (now : ℕ) → AreUpTo n (commit_calls c now t)
commit_in n t le (Done m) now = kept_in n t le m.changed now
commit_in n t le Overtaken now = tt
commit_in n t le Ended now = tt
commit_in n t le Stranger now = tt

commit_rises : (o : CommitOutcome) (t : Ticket) (slot : Slot) (w : ObserverList) → slot.serial ≤ (after_changes slot (commits o t slot.serial w).changes).serial
commit_rises Writes t slot w = omega arith
commit_rises Keeps t slot w = omega arith
commit_rises Overtakes t slot w = omega arith
commit_rises Ends t slot w = omega arith

own_sent : (ran : Ran) (t : Ticket) (slot : Slot) (w : ObserverList) (c : Answer) (after : Slot) (now : ℕ) → IsOwnCommit ran t slot w c after → IsSentUpTo slot.serial w → IsSentUpTo after.serial (after_calls (commit_calls c now t) w)
own_sent ran t slot w c after now is sent =
    let rises = commit_rises is.1.comes_to t slot w in
    let same = ap (λ (s : Slot). s.serial) is.1.after_is in
    let le : slot.serial ≤ after.serial = omega (arith, rises, same) in
    let found = is.0.run.found in
    sent_after after.serial (commit_calls c now t) w (commit_in after.serial t (omega (arith, found, le)) c now) (sent_more slot.serial after.serial w le sent)

pub sent_committed : (ran : Ran) (t : Ticket) (slot : Slot) (w : ObserverList) (c : Answer) (after : Slot) (now : ℕ) → IsCommit ran t slot w c after → IsSentUpTo slot.serial w → IsSentUpTo after.serial (after_calls (commit_calls c now t) w)
sent_committed ran t slot w Stranger after now is sent = subst (λ (s : Slot). IsSentUpTo s.serial w) (sym is.after_is) sent
sent_committed ran t slot w (Done m) after now is sent = own_sent ran t slot w (Done m) after now is sent
sent_committed ran t slot w Overtaken after now is sent = own_sent ran t slot w Overtaken after now is sent
sent_committed ran t slot w Ended after now is sent = own_sent ran t slot w Ended after now is sent

-- ---- a notification

told_in : (n : ℕ) (b : Bool) (turn : Turn) (id random at serial : ℕ) (e : Emission) → serial ≤ n → HandsInUpTo n (told_call b turn id random at serial e.bytes)
told_in n true turn id random at serial e le = le
told_in n false turn id random at serial e le = tt

note_in : (n : ℕ) (told : Notification) (turn : Turn) (id random at : ℕ) (w : ObserverList) (r : Noted) → IsNotedIn told turn id n w r → AreUpTo n (note_calls turn id random at (ticket_told told) (sent_of r))
note_in n told turn id random at w noted.Stale is = (tt, tt)
note_in n told turn id random at w noted.Stranger is = (tt, tt)
note_in n (tells.Ran outcome ticket) turn id random at w (noted.Send e) is = (told_in n (keeps_observer (Some ticket.now)) turn id random at ticket.now.serial e is.0.run.found, (tt, tt))
note_in n tells.Gone turn id random at w (noted.Send e) is = (tt, (tt, tt))

pub sent_noted : (n : ℕ) (told : Notification) (turn : Turn) (id random at : ℕ) (v w : ObserverList) (r : Noted) → IsNotedIn told turn id n v r → IsSentUpTo n w → IsSentUpTo n (after_calls (note_calls turn id random at (ticket_told told) (sent_of r)) w)
sent_noted n told turn id random at v w r is sent = sent_after n (note_calls turn id random at (ticket_told told) (sent_of r)) w (note_in n told turn id random at v r is) sent

-- ---- an install and a removal

put_rises : (slot : Slot) (p : Program) (v : InitialVars) (b : Bool) → slot.serial ≤ (after_changes slot (put_by b slot p v).changes).serial
put_rises slot p v true = omega arith
put_rises slot p v false = omega arith

pub install_rises : (slot : Slot) (p : Program) (v : InitialVars) → slot.serial ≤ (after_changes slot (install_in slot p v).changes).serial
install_rises slot p v = put_rises slot p v (nat_lt slot.serial last_serial)

clear_rises : (slot : Slot) (b : Bool) (found : Option Present) → slot.serial ≤ (after_changes slot (clear_by b slot.serial found).changes).serial
clear_rises slot b None = omega arith
clear_rises slot true (Some p) = omega arith
clear_rises slot false (Some p) = omega arith

pub remove_rises : (slot : Slot) → slot.serial ≤ (after_changes slot (remove_from slot).changes).serial
remove_rises slot = clear_rises slot (nat_lt slot.serial last_serial) slot.present

-- ---- places

module _ (slots : List Slot) (watches : List ObserverList) (p : ℕ) (few : length slots ≡ 8) (eight : length watches ≡ 8) (lt : p < 8) (sent : AreSentUpTo slots watches) where
  -- if a slot and its observers are replaced, and the new observers were sent no serial above the
  -- new slot's, no observer is ahead.
  pub sent_written : (s : Slot) (w : ObserverList) → IsSentUpTo s.serial w → AreSentUpTo (set slots p s) (set watches p w)
  sent_written s w up k =
      ⊎_elim
      (λ (same : k ≡ p). subst (λ (j : ℕ). IsSentUpTo (get_or (set slots p s) j (new_slot 0)).serial (get_or (set watches p w) j (no_observers 0 0))) (sym same)
      (subst (λ (v : ObserverList). IsSentUpTo (get_or (set slots p s) p (new_slot 0)).serial v) (sym (get_or-set_same watches p w (no_observers 0 0) (omega (arith, eight, lt))))
      (subst (λ (t : Slot). IsSentUpTo t.serial w) (sym (get_or-set_same slots p s (new_slot 0) (omega (arith, few, lt)))) up)))
      (λ (other : k ≡ p → ⊥). subst (λ (v : ObserverList). IsSentUpTo (get_or (set slots p s) k (new_slot 0)).serial v) (sym (get_or-set_other watches p k w (no_observers 0 0) other))
      (subst (λ (t : Slot). IsSentUpTo t.serial (get_or watches k (no_observers 0 0))) (sym (get_or-set_other slots p k s (new_slot 0) other)) (sent k)))
      (cases_eq k p)

  -- the lemma above, if only the observers at the place are replaced.
  pub sent_there : (w : ObserverList) → IsSentUpTo (get_or slots p (new_slot 0)).serial w → AreSentUpTo slots (set watches p w)
  sent_there w up = subst (λ (xs : List Slot). AreSentUpTo xs (set watches p w)) (set-get_or slots p (new_slot 0)) (sent_written (get_or slots p (new_slot 0)) w up)

  -- the lemma above, if only the slot at the place is replaced, by one with no lower serial.
  pub sent_at : (s : Slot) → (get_or slots p (new_slot 0)).serial ≤ s.serial → AreSentUpTo (set slots p s) watches
  sent_at s le = subst (λ (ws : List ObserverList). AreSentUpTo (set slots p s) ws) (set-get_or watches p (no_observers 0 0)) (sent_written s (get_or watches p (no_observers 0 0)) (sent_more (get_or slots p (new_slot 0)).serial s.serial (get_or watches p (no_observers 0 0)) le (sent p)))

-- the lemmas above for the states of which the slots are views.
module _ (items : List SlotState) (watches : List ObserverList) (p : ℕ) (few : length items ≡ 8) (eight : length watches ≡ 8) (lt : p < 8) (sent : AreSentUpTo (map as_seen items) watches) where
  seen_few : length (map as_seen items) ≡ 8
  seen_few = length-map items as_seen ∙ few

  there : (was : ObserverList) → was ≡ get_or watches p was → was ≡ get_or watches p (no_observers 0 0)
  there was is = is ∙ get_or_default watches p was (no_observers 0 0) (omega (arith, lt, eight))

  pub slot_there : (was : SlotState) → was ≡ get_or items p was → as_seen was ≡ get_or (map as_seen items) p (new_slot 0)
  slot_there was is = ap as_seen is ∙ sym (get_or-map as_seen items p was (new_slot 0) (omega (arith, lt, few)))

  pub watch_sent : (was w : ObserverList) → was ≡ get_or watches p was → (IsSentUpTo (get_or (map as_seen items) p (new_slot 0)).serial was → IsSentUpTo (get_or (map as_seen items) p (new_slot 0)).serial w) → AreSentUpTo (map as_seen items) (set watches p w)
  watch_sent was w is keeps = sent_there (map as_seen items) watches p seen_few eight lt sent w (keeps (subst (IsSentUpTo (get_or (map as_seen items) p (new_slot 0)).serial) (sym (there was is)) (sent p)))

  pub slot_sent : (was now : SlotState) → was ≡ get_or items p was → (as_seen was).serial ≤ (as_seen now).serial → AreSentUpTo (map as_seen (set items p now)) watches
  slot_sent was now is le =
      subst (λ (xs : List Slot). AreSentUpTo xs watches) (sym (map-set as_seen items p now))
      (sent_at (map as_seen items) watches p seen_few eight lt sent (as_seen now) (subst (λ (s : Slot). s.serial ≤ (as_seen now).serial) (slot_there was is) le))

  pub both_sent : (was now : SlotState) (v w : ObserverList) → was ≡ get_or items p was → v ≡ get_or watches p v → (IsSentUpTo (as_seen was).serial v → IsSentUpTo (as_seen now).serial w) → AreSentUpTo (map as_seen (set items p now)) (set watches p w)
  both_sent was now v w is held keeps =
      let old = subst (λ (s : Slot). IsSentUpTo s.serial (get_or watches p (no_observers 0 0))) (sym (slot_there was is)) (sent p) in
      subst (λ (xs : List Slot). AreSentUpTo xs (set watches p w)) (sym (map-set as_seen items p now))
      (sent_written (map as_seen items) watches p seen_few eight lt sent (as_seen now) w (keeps (subst (IsSentUpTo (as_seen was).serial) (sym (there v held)) old)))

-- ---- every place

pub mapped_at : (f : ObserverList → ObserverList) (P : ObserverList → Type 0) (ws : List ObserverList) (k : ℕ) → ((w : ObserverList) → P w → P (f w)) → P (no_observers 0 0) → P (get_or ws k (no_observers 0 0)) → P (get_or (map f ws) k (no_observers 0 0))
mapped_at f P [] k keeps none was = none
mapped_at f P (w ∷ ws) zero keeps none was = keeps w was
mapped_at f P (w ∷ ws) (suc k) keeps none was = mapped_at f P ws k keeps none was

-- a call on the observers at each place that sends no serial keeps every serial at most the slot's.
pub sent_everywhere : (c : ObserverCall) (slots : List Slot) (watches : List ObserverList) → ((n : ℕ) → HandsInUpTo n c) → AreSentUpTo slots watches → AreSentUpTo slots (map (observers_after c) watches)
sent_everywhere c slots watches up sent k =
    let n = (get_or slots k (new_slot 0)).serial in
    mapped_at (observers_after c) (IsSentUpTo n) watches k (λ w. serials_below n c w (up n)) (All-nil (λ (o : Entry). o.serial ≤ n)) (sent k)

abbrev AreNew : List ObserverList → Type 0
AreNew [] = Unit {0}
AreNew (w ∷ ws) = (w.held ≡ []) × AreNew ws

new_held : (ws : List ObserverList) (k : ℕ) → AreNew ws → (get_or ws k (no_observers 0 0)).held ≡ []
new_held [] k new = refl
new_held (w ∷ ws) zero new = new.0
new_held (w ∷ ws) (suc k) new = new_held ws k new.1

-- the lists of observers of a new shard are empty.
pub none_new : (index confirm_after k : ℕ) → (get_or (new_watches index confirm_after 8) k (no_observers 0 0)).held ≡ []
none_new index confirm_after k = new_held (new_watches index confirm_after 8) k (refl, (refl, (refl, (refl, (refl, (refl, (refl, (refl, tt))))))))

-- no observer of a new shard was sent a serial.
pub none_sent : (slots : List Slot) (index confirm_after : ℕ) → AreSentUpTo slots (new_watches index confirm_after 8)
none_sent slots index confirm_after k =
    let n = (get_or slots k (new_slot 0)).serial in
    subst (λ (os : List Entry). All (λ (o : Entry). o.serial ≤ n) os) (sym (none_new index confirm_after k)) (All-nil (λ (o : Entry). o.serial ≤ n))
