-- A signal that is passed to one shard after the other.
use Rattle.std.proofs.Common.{ℕ, ◌+◌, suc, Bool, refl, arith, subst}
use Rattle.coap_msg.specs.declared.types.Endpoint.{Endpoint}
use Rattle.fc_backend.specs.Logs.{TrackedLog}
use Rattle.fc_calls.specs.Logged.{HandsSignal}
use Rattle.fc_workers.specs.Views.{WorkerView}
use Rattle.fc_workers.specs.Dispatch.{AreSignalled}

-- with an unchanged log, the signal was passed to none of the shards.
pub no_signals : {T : Type 0} (s : WorkerView T) (from : Endpoint) (id : ℕ) (reset : Bool) (log : TrackedLog) → AreSignalled s 0 from id reset log log
unfolding AreSignalled
no_signals s from id reset log = refl

next_signal : {T : Type 0} (s : WorkerView T) (n : ℕ) (from : Endpoint) (id : ℕ) (reset : Bool) (before now after : TrackedLog) → AreSignalled s n from id reset before now
    → s.logged (HandsSignal n from id reset) now after → AreSignalled s (suc n) from id reset before after
unfolding AreSignalled
next_signal s n from id reset before now after are hands = (now, are, hands)

-- if the signal was passed to the first n shards and then to shard n, it was passed to the first n
-- + 1 shards.
pub signals_on : {T : Type 0} (s : WorkerView T) (n : ℕ) (from : Endpoint) (id : ℕ) (reset : Bool) (before now after : TrackedLog) → AreSignalled s n from id reset before now
    → s.logged (HandsSignal n from id reset) now after → AreSignalled s (n + 1) from id reset before after
signals_on s n from id reset before now after are hands =
    subst (λ (k : ℕ). AreSignalled s k from id reset before after) (omega arith) (next_signal s n from id reset before now after are hands)
