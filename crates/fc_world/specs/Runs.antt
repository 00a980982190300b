-- The end of a list of events.
use Rattle.std.specs.Prelude.{◌≡◌, ℕ, List, Option, length}
use Rattle.coap_msg.specs.declared.types.Emission.{Emission}
use Rattle.fc_registry.specs.Record.{IsChain}
use Rattle.fc_registry.specs.Slots.{Shard}
use Rattle.fc_core.specs.declared.event.Event.{Event}
use Rattle.fc_core.specs.History.{History, first_slot, history_after, seen}
use Rattle.fc_core.specs.Legal.{AllMean, IsLegal}
use Rattle.fc_server.specs.Agreement.{ShardsAgree}

-- a server in the state of history h executes these events, emits these emissions, and ends with
-- these shards. Each emission is legal, and each program that a snapshot found has a meaning. The
-- changes of each slot are a chain since the server began.
pub record EndsWith (h : History) (events : List Event) (emissions : List (Option Emission)) (shards : List Shard) : Type 0 where
  pub count : length emissions ≡ length events
  pub legal : IsLegal (history_after h events emissions)
  pub means : AllMean (history_after h events emissions)
  pub agrees : ShardsAgree (seen (history_after h events emissions)) shards
  pub stored : (seen (history_after h events emissions)).stored ≡ (seen h).stored
  pub chain : (n : ℕ) → IsChain (first_slot (seen h) n) ((seen (history_after h events emissions)).changes n)
