-- A single-threaded server's results for a shard say correctly that the shard has nothing to send.
use Rattle.std.proofs.Common.{◌≡◌, ℕ, true, false, Option, Some, None, refl, ap, sym, ◌∙◌}
use Rattle.std.specs.Prelude.{◌%◌, ◌↔◌, is_some}
use Rattle.coap_msg.specs.declared.types.Emission.{Emission}
use Rattle.fc_core.proofs.Places.{place_passes}
use Rattle.fc_observe.specs.declared.entry.Entry.{Entry}
use Rattle.fc_observe.specs.declared.observers.Ticked.{Ticked}
use Rattle.fc_observe.specs.declared.observers.Ticked.TheVariants.{Quiet}
use Rattle.fc_observe.specs.Entries.{retransmission}
use Rattle.fc_observe.specs.Observers.{list_at_time, overdue_entry, ticked_at, ticked_by}
use Rattle.fc_ticket.specs.declared.job.Job.{Job}
use Rattle.fc_registry.specs.Shards.{shard_at}
use Rattle.fc_registry.specs.Slots.{Shard}
use Rattle.fc_registry.specs.Watches.{at_time, has_overdue, overdue_place, ticked_in, watch_at}
use Rattle.fc_server.specs.Notified.{Nobody, Notified, Sent, Starved, Unsent, is_given}
use Rattle.fc_server.specs.Steps.{shard_turn}
use Rattle.fc_server.specs.SingleThread.{NotifiesAlone, ResendsAlone}
use Rattle.fc_server.specs.declared.alone.SingleThread.{SingleThread}

-- ---- the result is `Quiet` exactly if no notification is overdue

sends_or_removes : (again : Option Emission) → ticked_by again ≡ Quiet → ⊥
sends_or_removes None e = absurd (cc e)
sends_or_removes (Some emission) e = absurd (cc e)

entry_tells : (o : Option Entry) → is_some o ≡ true → ticked_at o ≡ Quiet → ⊥
entry_tells None is e = absurd (cc is)
entry_tells (Some entry) is e = sends_or_removes (retransmission entry) e

place_tells : (shard : Shard) (o : Option ℕ) → overdue_place shard ≡ o → ticked_in o shard ≡ Quiet → o ≡ None
place_tells shard None is idle = refl
place_tells shard (Some k) is idle = absurd (entry_tells (overdue_entry (list_at_time shard.now (watch_at shard k))) (place_passes (has_overdue shard) 8 0 k is) idle)

pub idle_is_told : (shard now : ℕ) (old new : SingleThread) (ticked : Ticked) → ResendsAlone shard now old new ticked
    → ((ticked ≡ Quiet) ↔ (overdue_place (at_time (shard_at old.engine.shards (shard % 8)) now) ≡ None))
idle_is_told shard now old new ticked w =
    let at = at_time (shard_at old.engine.shards (shard % 8)) now in (
      λ is. place_tells at (overdue_place at) refl (sym w.0 ∙ is),
      λ none. w.0 ∙ ap (λ (o : Option ℕ). ticked_in o at) none,
    )

-- ---- the result is `Nobody` exactly if no observer is due

none_given : (o : Option Job) → false ≡ is_some o → o ≡ None
none_given None e = refl
none_given (Some job) e = absurd (cc e)

nobody_by : (told : Notified) → is_given told ≡ false → told ≡ Nobody
nobody_by Nobody e = refl
nobody_by (Sent emission) e = absurd (cc e)
nobody_by Unsent e = absurd (cc e)
nobody_by Starved e = absurd (cc e)

pub nobody_is_told : (shard now : ℕ) (old new : SingleThread) (told : Notified) → NotifiesAlone shard now old new told
    → ((told ≡ Nobody) ↔ (shard_turn now (shard_at old.engine.shards (shard % 8)) ≡ None))
nobody_is_told shard now old new told w =
    let turn = shard_turn now (shard_at old.engine.shards (shard % 8)) in (
      λ is. none_given turn (ap is_given (sym is) ∙ w.0.is_due),
      λ none. nobody_by told (w.0.is_due ∙ ap is_some none),
    )
