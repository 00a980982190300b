use Rattle.std.proofs.Common.{◌∙◌, ap}
use Rattle.fc_registry.specs.Slots.{Slot}
use Rattle.fc_registry.proofs.Writes.{slot_read}
use Rattle.fc_registry.proofs.shard.Shard.noticed_at.Goals as goal

pub returns : goal.returns
returns c =
    let in_ = c.self.inside in
    c.noticed.ensures ∙ ap (λ (s : Slot). s.notify_serial) (slot_read in_.index in_.now in_.slots.items in_.watches.items c.args.self.now c.self.view_is c.self.invariant.0 c.args.place c.index-state.result.now c.requires c.index-state.ensures)
