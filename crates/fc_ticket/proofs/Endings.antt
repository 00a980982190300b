-- A notification ends its lease.
use Rattle.std.proofs.Common.{◌≡◌, ℕ, Bool, Some, ap, [], ◌∷◌}
use Rattle.std.proofs.lemmas.Bool.{eq-eqb, ne_eqb}
use Rattle.coap_msg.specs.declared.types.Emission.{Emission}
use Rattle.fc_observe.specs.declared.entry.Turn.{Turn}
use Rattle.fc_observe.specs.Calls.{Advance, End, Notify}
use Rattle.fc_ticket.specs.Runs.{meaning_at}
use Rattle.fc_ticket.specs.Notes.{note_calls, told_call}
use Rattle.fc_ticket.specs.Tickets.{Ticket}

pub content_ends : (turn : Turn) (id random at : ℕ) (t : Ticket) (e : Emission) → (meaning_at t).code ≡ 69 → note_calls turn id random at (Some t) (Some e) ≡ Notify at turn id t.serial random e.bytes ∷ Advance at ∷ []
content_ends turn id random at t e is = ap (λ (b : Bool). told_call b turn id random at t.serial e.bytes ∷ Advance at ∷ []) (eq-eqb (meaning_at t).code 69 is)

pub error_ends : (turn : Turn) (id random at : ℕ) (t : Ticket) (e : Emission) → ((meaning_at t).code ≡ 69 → ⊥) → note_calls turn id random at (Some t) (Some e) ≡ End turn ∷ Advance at ∷ []
error_ends turn id random at t e not = ap (λ (b : Bool). told_call b turn id random at t.serial e.bytes ∷ Advance at ∷ []) (ne_eqb (meaning_at t).code 69 not)
