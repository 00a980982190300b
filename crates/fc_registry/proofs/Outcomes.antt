-- The outcome of a commit. Serials decide the outcome if the slot gave the ticket.
use Rattle.std.proofs.Common.{◌≡◌, ℕ, Bool, true, false, refl, sym}
use Rattle.std.specs.Prelude.{nat_lt, ◌==◌}
use Rattle.std.proofs.lemmas.Bool.{lt-ltb, le-ltb, eqb-true, eq-eqb}
use Rattle.fc_registry.specs.declared.commit.CommitOutcome.{CommitOutcome}
use Rattle.fc_registry.specs.declared.commit.CommitOutcome.TheVariants.{Writes, Keeps, Overtakes, Ends}
use Rattle.fc_registry.specs.Slots.{Slot, last_serial}
use Rattle.fc_ticket.specs.Tickets.{Ticket}
use Rattle.fc_registry.specs.Calls.{HasGiven, ComesTo, outcome, outcome_by, wants}

decided : (t : Ticket) (slot : Slot) (w same below : Bool) → wants t ≡ w → (slot.serial == t.serial) ≡ same → nat_lt slot.serial last_serial ≡ below → outcome t slot ≡ outcome_by w same below
decided t slot w same below e f g = λ i. outcome_by (e i) (f i) (g i)

apart : (a b : ℕ) (same : Bool) → (a == b) ≡ same → (a ≡ b → ⊥) → same ≡ false
apart a b true e differ = absurd (differ (eqb-true a b e))
apart a b false e differ = refl

pub by_serials : (t : Ticket) (slot : Slot) (o : CommitOutcome) → HasGiven slot t → ComesTo t slot o → o ≡ outcome t slot
by_serials t slot Keeps g is = sym (decided t slot false _ _ is refl refl)
by_serials t slot Overtakes g is =
    let differ = apart slot.serial t.serial (slot.serial == t.serial) refl (λ e. is.1 (record { serial = e; present = g.present (sym e) })) in
    sym (decided t slot true false _ is.0 differ refl)
by_serials t slot Ends g is = sym (decided t slot true true false is.0 (eq-eqb slot.serial t.serial is.1.serial) (le-ltb slot.serial last_serial is.2))
by_serials t slot Writes g is = sym (decided t slot true true true is.0 (eq-eqb slot.serial t.serial is.1.serial) (lt-ltb slot.serial last_serial is.2))
