-- The calls of a notification on the observers are those after an advance of their clock.
use Rattle.std.proofs.Common.{◌≡◌, ℕ, Option, Some, None, refl}
use Rattle.coap_msg.specs.declared.types.Emission.{Emission}
use Rattle.fc_observe.specs.declared.entry.Turn.{Turn}
use Rattle.fc_observe.specs.Calls.{after_calls}
use Rattle.fc_observe.specs.Observers.{ObserverList, list_at_time}
use Rattle.fc_ticket.specs.Notes.{note_calls, told_calls}
use Rattle.fc_ticket.specs.Tickets.{Ticket}

pub after_advance : (turn : Turn) (id random at : ℕ) (found : Option Ticket) (sent : Option Emission) (w : ObserverList) → after_calls (told_calls turn id random at found sent) (list_at_time at w) ≡ after_calls (note_calls turn id random at found sent) w
after_advance turn id random at found None w = refl
after_advance turn id random at found (Some e) w = refl
