-- The calls that workers make, each with its arguments and its result, and the contracts of the
-- called parts.
use Rattle.std.specs.Prelude.{ℕ, Bool, List}
use Rattle.coap_msg.specs.declared.types.Emission.{Emission}
use Rattle.fc_registry.specs.Changes.{Change}
use Rattle.fc_front.specs.declared.gauges.FrontGauges.{FrontGauges}

-- a call of a backend that changes nothing, and is in no log. It is known that the call was made,
-- but not how often or when.
pub data BenchCall : Type 0 where
  -- a shard that isn't idle at this time is unchanged.
  LeavesUnquiet : (shard now : ℕ) → BenchCall
  -- a shard returns this time, before which it is idle unless it is called.
  LooksAhead : (shard until : ℕ) → BenchCall
  -- the front has these gauges at this time.
  ReadsGauges : (now : ℕ) (gauges : FrontGauges) → BenchCall
  -- the slots of a shard have these numbers of observers, by place.
  CountsObservers : (shard : ℕ) (counts : List ℕ) → BenchCall
  -- this change of a slot can't be saved, and the slot is unchanged.
  RefusesSave : (slot : ℕ) (change : Change) → BenchCall
  -- a change of this slot's shard is found being saved.
  FindsSaving : (slot : ℕ) → BenchCall

-- a call of a transmitter for the job with this number.
pub data WireCall : Type 0 where
  -- the job's reply is sent; the result says whether it went out.
  SendsReply : (number : ℕ) (reply : Emission) (out : Bool) → WireCall
  -- the job has ended.
  EndsJob : (number : ℕ) → WireCall
