-- The first notification that timed out is retransmitted.
use Rattle.std.proofs.Common.{◌≡◌, ℕ, ◌<◌, List, [], ◌∷◌, ◌++◌, length, Bool, true, false, cond, Option, Some, refl, ap, ◌∙◌}
use Rattle.std.specs.Prelude.{find, ◌||◌}
use Rattle.std.specs.List.{list_any}
use Rattle.arrayvec.specs.ArrayVec.{ArrayVec}
use Rattle.coap_msg.specs.declared.types.Emission.{Emission}
use Rattle.fc_observe.specs.declared.entry.Entry.{Entry}
use Rattle.fc_observe.specs.declared.observers.Ticked.TheVariants.{Resend}
use Rattle.fc_observe.specs.Entries.{is_overdue}
use Rattle.fc_observe.specs.Laws.{IsSentAt, resent_entry}
use Rattle.fc_observe.specs.Observers.{ObserverList, ticked, ticked_at, ticked_by}
use Rattle.fc_observe.proofs.Resending.{sent_again}

first_by : (p : Entry → Bool) (x o : Entry) (before after : List Entry) (b : Bool) → p x ≡ b → (b || list_any p before) ≡ false → (list_any p before ≡ false → find p (before ++ o ∷ after) ≡ Some o) → find p (x ∷ before ++ o ∷ after) ≡ Some o
first_by p x o before after true is none rest = absurd (cc none)
first_by p x o before after false is none rest = ap (λ (b : Bool). cond b (Some x) (find p (before ++ o ∷ after))) is ∙ rest none

found_first : (p : Entry → Bool) (before after : List Entry) (o : Entry) → list_any p before ≡ false → p o ≡ true → find p (before ++ o ∷ after) ≡ Some o
found_first p [] after o none passes = ap (λ (b : Bool). cond b (Some o) (find p after)) passes
found_first p (x ∷ before) after o none passes = first_by p x o before after (p x) refl none (λ rest. found_first p before after o rest passes)

pub first_is_sent : (s wait : ℕ) (bytes : ArrayVec ℕ) (o : Entry) (at : List ℕ) (before after : List Entry) (t : ObserverList) → IsSentAt s wait bytes o → length at < 4 → is_overdue t.time (resent_entry at o) ≡ true → t.held ≡ before ++ resent_entry at o ∷ after → list_any (is_overdue t.time) before ≡ false → ticked t ≡ Resend (record { to = o.endpoint; bytes = bytes })
first_is_sent s wait bytes o at before after t sent few overdue held none =
    ap (λ (os : List Entry). ticked_at (find (is_overdue t.time) os)) held
    ∙ (ap (λ (x : Option Entry). ticked_at x) (found_first (is_overdue t.time) before after (resent_entry at o) none overdue)
    ∙ ap (λ (e : Option Emission). ticked_by e) (sent_again s wait bytes o at sent few))
