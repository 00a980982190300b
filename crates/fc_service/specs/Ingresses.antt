-- Effects of the calls of an ingress.
use Rattle.std.specs.Prelude.{◌≡◌, ◌⊎◌, ℕ, List, Bool, true, false}
use Rattle.std.specs.Borrow.{Bor}
use Rattle.coap_msg.specs.declared.types.Emission.{Emission}
use Rattle.coap_msg.specs.declared.types.Endpoint.{Endpoint}
use Rattle.fc_front.specs.declared.front.Handled.{Handled}
use Rattle.fc_front.specs.declared.front.Handled.TheVariants.{Job}
use Rattle.fc_server.specs.Ingresses.{IngressCalls}
use Rattle.fc_server.specs.Notified.{Notified, Sent, Starved, Unsent}
use Rattle.fc_server.specs.declared.engine.FireOutcome.{FireOutcome}
use Rattle.fc_server.specs.declared.engine.FireOutcome.TheVariants as fired

-- an ingress that waits for workers handled a datagram as the inner ingress did: with the same
-- result and the same written emission, unless the inner result was a job.
abbrev pub IsWaitedFor : {S : Type 0} → (ℕ → Endpoint → Bor (List ℕ) → S → S → Handled → Emission → Type 0) → ℕ → Endpoint → Bor (List ℕ) → S → S → Handled → Emission → Type 0
IsWaitedFor Handles now from bytes old new handled reply =
    (told : Handled) × (written : Emission) × Handles now from bytes old new told written × ((told ≡ Job) ⊎ ((handled ≡ told) × (reply ≡ written)))

-- a lease has ended: a notification is sent, or none is, since a message ID or memory is missing.
abbrev pub has_ended : Notified → Bool
has_ended (Sent emission) = true
has_ended Starved = true
has_ended other = false

-- the result for a lease, of an ingress that waits for workers: the inner result or, if nothing had
-- been sent, how the lease ended.
abbrev pub IsTurnWaitedFor : Notified → Notified → Type 0
IsTurnWaitedFor Unsent told = has_ended told ≡ true
IsTurnWaitedFor asked told = told ≡ asked

-- the result of a timer that fired, of an ingress that waits for workers: the inner result or, if a
-- worker had the job, that the job has ended.
abbrev pub IsFireWaitedFor : FireOutcome → FireOutcome → Type 0
IsFireWaitedFor (fired.Sent number) outcome = outcome ≡ fired.Ended
IsFireWaitedFor inner outcome = outcome ≡ inner

-- the calls of an ingress that waits for workers, by the inner ingress's calls.
abbrev pub waited_calls : {S : Type 0} → IngressCalls S → IngressCalls S
waited_calls calls = record {
  handles = IsWaitedFor calls.handles;
  passes = calls.passes;
  fires = λ slot now old new outcome. (inner : FireOutcome) × calls.fires slot now old new inner × IsFireWaitedFor inner outcome;
  is_first_due = calls.is_first_due;
  resends = calls.resends;
  passes_over = calls.passes_over;
  notifies = λ shard now old new told. (asked : Notified) × calls.notifies shard now old new asked × IsTurnWaitedFor asked told;
  stays_idle = calls.stays_idle;
  tells_gauges = calls.tells_gauges;
}

-- the calls of a holder of a server, by the server's calls.
abbrev pub calls_through : {H S : Type 0} → (H → S) → IngressCalls S → IngressCalls H
calls_through held calls = record {
  handles = λ now from bytes old new handled reply. calls.handles now from bytes (held old) (held new) handled reply;
  passes = λ now old new. calls.passes now (held old) (held new);
  fires = λ slot now old new outcome. calls.fires slot now (held old) (held new) outcome;
  is_first_due = λ now due. calls.is_first_due (held now) due;
  resends = λ shard now old new ticked. calls.resends shard now (held old) (held new) ticked;
  passes_over = λ shard now old new. calls.passes_over shard now (held old) (held new);
  notifies = λ shard now old new told. calls.notifies shard now (held old) (held new) told;
  stays_idle = λ shard now until. calls.stays_idle shard (held now) until;
  tells_gauges = λ now state gauges. calls.tells_gauges now (held state) gauges;
}
