-- The data of an entry's last notification.
use Rattle.std.proofs.Common.{◌≡◌, ℕ, Bool, true, false, Some, refl, sym, ap, subst, inl, inr}
use Rattle.std.specs.Prelude.{max, if◌then◌else◌, ◌⊎◌}
use Rattle.std.specs.List.{All, Any}
use Rattle.std.proofs.lemmas.List.Elements.{All-weaker}
use Rattle.arrayvec.specs.ArrayVec.{ArrayVec}
use Rattle.fc_observe.specs.declared.entry.Entry.{Entry}
use Rattle.fc_observe.specs.Calls.{ComesFrom, IsRegisteredBy, ObserverCall, Register, Notify, changed_by, may_change, observers_after}
use Rattle.fc_observe.specs.Entries.{must_confirm, notified_by}
use Rattle.fc_observe.specs.Laws.{IsNewAt, KeepsLast}
use Rattle.fc_observe.specs.Observers.{ObserverList}
use Rattle.fc_observe.specs.Views.{interest_of}
use Rattle.fc_observe.proofs.Keeping.{come_from}

-- after a notification, confirmable or not, an entry has the same observer, and the notification's
-- message ID. The time of the last confirmable notification changes if it is confirmable
notified_last : (now id serial random : ℕ) (bytes : ArrayVec ℕ) (o : Entry) (b : Bool) → (interest_of (notified_by b now id serial random bytes o) ≡ interest_of o) × ((notified_by b now id serial random bytes o).id ≡ Some id) × ((notified_by b now id serial random bytes o).confirmed ≡ (if b then now else o.confirmed))
notified_last now id serial random bytes o true = (refl, refl, refl)
notified_last now id serial random bytes o false = (refl, refl, refl)

changed_last : (c : ObserverCall) (t : ObserverList) (o : Entry) → may_change c t o ≡ true → KeepsLast c t (changed_by c t o) o
changed_last (Notify now turn id serial random bytes) t o may =
    let w = notified_last (max t.time now) id serial random bytes o (must_confirm t.confirm_after (max t.time now) o) in
    inr (may, w.0, w.1, w.2)
changed_last other t o may = (refl, refl, refl)

same_last : (c : ObserverCall) (t : ObserverList) (o before : Entry) → o ≡ before → KeepsLast c t o before
same_last (Notify now turn id serial random bytes) t o before same = inl same
same_last other t o before same = (ap interest_of same, ap (λ (x : Entry). x.id) same, ap (λ (x : Entry). x.confirmed) same)

last_by : (c : ObserverCall) (t : ObserverList) (o before : Entry) → (o ≡ before) ⊎ ((may_change c t before ≡ true) × (o ≡ changed_by c t before)) → KeepsLast c t o before
last_by c t o before (inl same) = same_last c t o before same
last_by c t o before (inr w) = subst (λ (x : Entry). KeepsLast c t x before) (sym w.1) (changed_last c t before w.0)

new_last : (c : ObserverCall) (t : ObserverList) (o : Entry) → IsRegisteredBy c t o → IsNewAt c t o
new_last (Register now to token request szx serial) t o new = (ap (λ (x : Entry). x.id) new, ap (λ (x : Entry). x.confirmed) new)
new_last other t o new = absurd new

keeps : (c : ObserverCall) (t : ObserverList) (o : Entry) → ComesFrom c t o → IsNewAt c t o ⊎ Any (KeepsLast c t o) t.held
keeps c t o (inl new) = inl (new_last c t o new)
keeps c t o (inr w) = inr (w.0, w.1, w.2, w.3, last_by c t o w.1 w.4)

pub last_kept : (c : ObserverCall) (t : ObserverList) → All (λ (o : Entry). IsNewAt c t o ⊎ Any (KeepsLast c t o) t.held) (observers_after c t).held
last_kept c t = All-weaker (ComesFrom c t) (λ (o : Entry). IsNewAt c t o ⊎ Any (KeepsLast c t o) t.held) (keeps c t) (observers_after c t).held (come_from c t)
