-- The effect of each call on a server's handle.
use Rattle.std.specs.Prelude.{◌≡◌, ◌⊎◌, ℕ, true, List, [], ◌∷◌, length, take, Option, Some, None}
use Rattle.std.specs.Borrow.{Bor}
use Rattle.coap_msg.specs.declared.types.Emission.{Emission}
use Rattle.coap_msg.specs.declared.types.Endpoint.{Endpoint}
use Rattle.fc_front.specs.Exchanges.{advanced}
use Rattle.fc_front.specs.Receiving.{delivered}
use Rattle.fc_server.specs.SingleThread.{StaysIdleAlone, alone_calls}
use Rattle.fc_server.specs.Serving.{Handles, Passes, Serves}
use Rattle.fc_server.specs.Flushing.{AreIdleUntil, AreFlushed, AreStepsBy, FlushingStep, sent_in_steps}
use Rattle.fc_server.specs.States.{ServerState, begin_of}
use Rattle.fc_server.specs.declared.alone.SingleThread.{SingleThread}
use Rattle.numzela.specs.Configs.{begin_for, is_valid}
use Rattle.numzela.specs.declared.config.Config.{Config}
use Rattle.numzela.specs.declared.server.Datagram.{Datagram}
use Rattle.numzela.specs.declared.server.Peer.{Peer}
use Rattle.numzela.specs.declared.server.Serving.{Serving}

-- the configuration is valid, and the handle holds a server in the initial state that the
-- configuration states.
pub record HasBegun (config : Config) (new : Option Serving) : Type 0 where
  pub made : Serving
  pub holds : new ≡ Some made
  pub valid : is_valid config ≡ true
  pub serves : Serves (begin_of (begin_for config)) made.alone.engine []

-- ---- datagrams

-- the endpoint that C passes.
abbrev pub endpoint_for : Peer → Endpoint
endpoint_for p = record { ip = p.address; port = p.port }

-- the written datagram is the emission, with the emission's receiver, size and bytes.
pub record IsWritten (emission : Emission) (out : Datagram) : Type 0 where
  pub to : endpoint_for out.to ≡ emission.to
  pub size : out.size ≡ length emission.bytes.items
  pub bytes : take out.size out.bytes ≡ emission.bytes.items

-- the status is SEND, and the emission was written; or the status is OK, and there is no emission.
abbrev pub Writes : ℕ → Option Emission → Datagram → Type 0
Writes status None out = status ≡ 0
Writes status (Some emission) out = (status ≡ 1) × IsWritten emission out

-- the server handled a datagram as its engine does, whatever the history so far, and the emission
-- that the engine sends, if any, was written.
pub record HasReceived (readings : List ℕ) (now : ℕ) (from : Peer) (bytes : Bor (List ℕ)) (old new : ServerState) (status : ℕ) (out : Datagram) : Type 0 where
  pub sent : Option Emission
  pub handles : let to = endpoint_for from in Handles readings now to bytes (delivered (advanced old.front now) to bytes.now) old new sent
  pub writes : Writes status sent out

-- the server of a handle handled a datagram, and the handle holds it afterwards.
pub record HasReceivedHeld (readings : List ℕ) (now : ℕ) (from : Peer) (bytes : Bor (List ℕ)) (old new : Option Serving) (status : ℕ) (out : Datagram) : Type 0 where
  pub before : Serving
  pub after : Serving
  pub held : old ≡ Some before
  pub holds : new ≡ Some after
  pub has_received : HasReceived readings now from bytes before.alone.engine after.alone.engine status out

-- ---- what is left to do

-- steps were taken. If the status is OK, the steps sent nothing, and `AreFlushed` holds. Otherwise
-- the status is SEND, one step sent just the written datagram, and the other steps sent nothing.
pub record HasFlushed (now : ℕ) (old new : SingleThread) (status : ℕ) (out : Datagram) : Type 0 where
  pub steps : List FlushingStep
  pub taken : AreStepsBy alone_calls now steps old new
  pub writes :
      ((status ≡ 0) × AreFlushed steps × (sent_in_steps steps ≡ []))
      ⊎ ((status ≡ 1) × ((emission : Emission) × (sent_in_steps steps ≡ emission ∷ []) × IsWritten emission out))

-- the server's jobs got these readings and this random word, and the pending steps were taken.
pub record HasPolled (readings : List ℕ) (now random : ℕ) (old new : SingleThread) (status : ℕ) (out : Datagram) : Type 0 where
  pub handed : SingleThread
  pub same : handed.engine ≡ old.engine
  pub with : handed.handed ≡ record { readings = readings; random = random }
  pub flushed : HasFlushed now handed new status out

-- the server of a handle was polled, and the handle holds it afterwards.
pub record HasPolledHeld (readings : List ℕ) (now random : ℕ) (old new : Option Serving) (status : ℕ) (out : Datagram) : Type 0 where
  pub before : Serving
  pub after : Serving
  pub held : old ≡ Some before
  pub holds : new ≡ Some after
  pub has_polled : HasPolled readings now random before.alone after.alone status out

-- ---- time

-- the clock of the handle's server advanced, and the server sent nothing.
pub record HasAdvanced (now : ℕ) (old new : Option Serving) : Type 0 where
  pub before : Serving
  pub after : Serving
  pub held : old ≡ Some before
  pub holds : new ≡ Some after
  pub passes : Passes now before.alone.engine after.alone.engine

-- the deadline is a time before which the shards have nothing to do, and the server is unchanged.
pub record HasDeadline (old new : Option Serving) (deadline : ℕ) : Type 0 where
  pub before : Serving
  pub held : old ≡ Some before
  pub holds : new ≡ Some before
  pub idle : AreIdleUntil (λ shard until. StaysIdleAlone shard before.alone until) deadline
