-- The history of a whole list of events.
use Rattle.std.specs.Prelude.{ℕ, List, Option}
use Rattle.coap_msg.specs.declared.types.Emission.{Emission}
use Rattle.fc_core.specs.declared.event.Event.{Event}
use Rattle.fc_core.specs.History.{BeginsWith, History, history_after}
use Rattle.fc_front.specs.declared.policy.Policy.{Policy}
use Rattle.fc_server.specs.States.{begin_of}
use Rattle.fc_server.specs.declared.server.Begin.{Begin}
use Rattle.fc_store.specs.Stored.{StoredSlots}

-- the history of a server with this initial state, of these events and their emissions.
abbrev pub history_from : Begin → List Event → List (Option Emission) → History
history_from begin events emissions = history_after (begin_of begin) events emissions

-- the history of a server whose slots are restored from these stored states, of these events and
-- their emissions. The server draws the message ID `id` first.
abbrev pub history_over : StoredSlots → ℕ → Policy → List Event → List (Option Emission) → History
history_over stored id policy events emissions = history_after (BeginsWith stored id policy) events emissions
