-- The effects of the calls of a server on one thread, with the input for its jobs. A call takes the
-- number of a shard modulo 8.
use Rattle.std.specs.Prelude.{◌≡◌, ◌%◌, ℕ, true, false, List, None, max}
use Rattle.std.specs.Borrow.{Bor}
use Rattle.coap_msg.specs.declared.types.Emission.{Emission}
use Rattle.coap_msg.specs.declared.types.Endpoint.{Endpoint}
use Rattle.fc_front.specs.Exchanges.{advanced}
use Rattle.fc_front.specs.Ids.{free_id}
use Rattle.fc_core.specs.Legal.{resent}
use Rattle.fc_front.specs.Receiving.{delivered, emission_if}
use Rattle.fc_front.specs.declared.front.Handled.{Handled}
use Rattle.fc_observe.specs.declared.observers.Ticked.{Ticked}
use Rattle.fc_registry.specs.Shards.{shard_at}
use Rattle.fc_registry.specs.Watches.{StaysIdleUntil, at_time, is_idle}
use Rattle.fc_server.specs.Gauges.{server_gauges}
use Rattle.fc_server.specs.Ingresses.{IngressCalls, is_reply, never}
use Rattle.fc_server.specs.Notified.{Notified, Starved, is_given, notification_in}
use Rattle.fc_server.specs.Serving.{AsksForTurn, FiresTimer, Handles, Passes, TicksShard}
use Rattle.fc_server.specs.Steps.{shard_told}
use Rattle.fc_server.specs.declared.alone.SingleThread.{SingleThread}
use Rattle.fc_server.specs.declared.engine.FireOutcome.{FireOutcome}
use Rattle.fc_server.specs.declared.engine.FireOutcome.TheVariants.{Ended, Refused, Sent}
use Rattle.fc_server.specs.declared.gauges.Gauges.{Gauges}

abbrev pub HandlesAlone : ℕ → Endpoint → Bor (List ℕ) → SingleThread → SingleThread → Handled → Emission → Type 0
HandlesAlone now from bytes old new handled reply =
    Handles old.handed.readings now from bytes (delivered (advanced old.engine.front now) from bytes.now) old.engine new.engine (emission_if (is_reply handled) reply) × (new.handed ≡ old.handed)

abbrev pub PassesAlone : ℕ → SingleThread → SingleThread → Type 0
PassesAlone now old new = Passes now old.engine new.engine × (new.handed ≡ old.handed)

-- the timer's job has ended, with a snapshot or without memory for one. No worker has it.
abbrev pub FiresAlone : ℕ → ℕ → SingleThread → SingleThread → FireOutcome → Type 0
FiresAlone slot now old new Ended = FiresTimer old.handed.readings slot now true old.engine new.engine × (new.handed ≡ old.handed)
FiresAlone slot now old new Refused = FiresTimer old.handed.readings slot now false old.engine new.engine × (new.handed ≡ old.handed)
FiresAlone slot now old new (Sent number) = ⊥

abbrev pub ResendsAlone : ℕ → ℕ → SingleThread → SingleThread → Ticked → Type 0
ResendsAlone shard now old new ticked =
    (ticked ≡ shard_told now (shard_at old.engine.shards (shard % 8))) × TicksShard (shard % 8) now old.engine new.engine (resent ticked) × (new.handed ≡ old.handed)

abbrev pub PassesOverAlone : ℕ → ℕ → SingleThread → SingleThread → Type 0
PassesOverAlone shard now old new =
    (is_idle (at_time (shard_at old.engine.shards (shard % 8)) now) ≡ true) × TicksShard (shard % 8) now old.engine new.engine None × (new.handed ≡ old.handed)

-- a shard was asked for a lease, with the server's input. The lease is starved only if no message
-- ID is available.
abbrev pub NotifiesAlone : ℕ → ℕ → SingleThread → SingleThread → Notified → Type 0
NotifiesAlone shard now old new told =
    AsksForTurn old.handed.readings (shard % 8) now old.handed.random old.engine new.engine (is_given told) (notification_in told) × (new.handed ≡ old.handed)
    × (told ≡ Starved → free_id old.engine.front.ids (max old.engine.front.now now) ≡ None)

abbrev pub StaysIdleAlone : ℕ → SingleThread → ℕ → Type 0
StaysIdleAlone shard now until = StaysIdleUntil until (shard_at now.engine.shards (shard % 8))

abbrev pub TellsGaugesAlone : ℕ → SingleThread → Gauges → Type 0
TellsGaugesAlone now state gauges = gauges ≡ server_gauges now state.engine

abbrev pub alone_calls : IngressCalls SingleThread
alone_calls = record {
  handles = HandlesAlone;
  passes = PassesAlone;
  fires = FiresAlone;
  is_first_due = λ now due. due ≡ never;
  resends = ResendsAlone;
  passes_over = PassesOverAlone;
  notifies = NotifiesAlone;
  stays_idle = StaysIdleAlone;
  tells_gauges = TellsGaugesAlone;
}
