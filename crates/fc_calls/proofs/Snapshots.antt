-- The snapshot of a request changes nothing.
use Rattle.std.proofs.Common.{◌≡◌, ◌∙◌, ℕ, ◌/◌, List, Option, None, ap}
use Rattle.fc_ticket.specs.declared.job.Job.{Job}
use Rattle.fc_registry.specs.Calls.{after_snapshot, snapshot_calls_by}
use Rattle.fc_registry.specs.Slots.{Shard, slot_in}
use Rattle.fc_ticket.specs.Taken.{Taken}
use Rattle.fc_registry.specs.Watches.{watch_at, with_calls}
use Rattle.fc_calls.specs.Doings.{TakesTo}

spare : (job : Job) (shard : Shard) → job.turn ≡ None → after_snapshot job shard ≡ shard
spare job shard none = ap (λ (o : Option ℕ). with_calls (snapshot_calls_by o job (slot_in shard job.origin.slot) shard.now (watch_at shard (job.origin.slot / 8))) job.origin.slot shard) none

pub takes_nothing : (job : Job) (readings : List ℕ) (before after : Shard) (taken : Taken) → job.turn ≡ None → TakesTo job readings before taken after → after ≡ before
takes_nothing job readings before after taken none takes = takes.1 ∙ spare job before none
