-- The entries whose wait for an acknowledgement ends.
use Rattle.std.proofs.Common.{◌≡◌, ℕ, List, [], ◌∷◌, Bool, true, false, refl, ap}
use Rattle.std.specs.List.{AllZip}
use Rattle.coap_msg.specs.declared.types.Endpoint.{Endpoint}
use Rattle.fc_observe.specs.declared.entry.Entry.{Entry}
use Rattle.fc_observe.specs.declared.entry.Phase.{Phase}
use Rattle.fc_observe.specs.declared.entry.Phase.TheVariants.{Idle, Outstanding}
use Rattle.fc_observe.specs.Entries.{acknowledged, acknowledged_phase, changed_if, has_last_id}
use Rattle.fc_observe.specs.Laws.{IsAcknowledged, IsOutstanding}
use Rattle.fc_observe.specs.Observers.{ObserverList, after_ack, at_each}
use Rattle.fc_observe.proofs.Resets.{is_so, so_is}

idle_after : (p : Phase) → IsOutstanding p → acknowledged_phase p ≡ Idle
idle_after (Outstanding sent_at timeout retransmissions bytes) waits = refl
idle_after other waits = absurd waits

stays_so : (p : Phase) → (IsOutstanding p → ⊥) → acknowledged_phase p ≡ p
stays_so (Outstanding sent_at timeout retransmissions bytes) not = absurd (not tt)
stays_so other not = refl

answered_by : (to : Endpoint) (id : ℕ) (o : Entry) (b : Bool) → has_last_id to id o ≡ b → IsAcknowledged to id o (changed_if b acknowledged o)
answered_by to id o true is =
    let w = so_is to id o is in (
      λ awaited. ap (λ (p : Phase). record o { phase = p }) (idle_after o.phase awaited.2),
      λ not. ap (λ (p : Phase). record o { phase = p }) (stays_so o.phase (λ waits. not (w.0, w.1, waits))),
    )
answered_by to id o false is = (
  λ awaited. let last = is_so to id o (awaited.0, awaited.1) in absurd (cc (is, last)),
  λ not. refl,
)

answered : (to : Endpoint) (id : ℕ) (os : List Entry) → AllZip (IsAcknowledged to id) os (at_each (has_last_id to id) acknowledged os)
answered to id [] = tt
answered to id (o ∷ os) = (answered_by to id o (has_last_id to id o) refl, answered to id os)

pub waits_end : (to : Endpoint) (id : ℕ) (t : ObserverList) → AllZip (IsAcknowledged to id) t.held (after_ack to id t).held
waits_end to id t = answered to id t.held
