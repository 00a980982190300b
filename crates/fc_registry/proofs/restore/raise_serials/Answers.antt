use Rattle.std.proofs.Common.{ap, ◌∙◌, sym, set}
use Rattle.std.proofs.lemmas.List.Edits.{map_over_more}
use Rattle.fc_store.specs.Stored.{StoredSlot}
use Rattle.fc_registry.specs.Restored.{at_least}
use Rattle.fc_registry.proofs.restore.raise_serials.Goals as goal

pub loop-slot-preserved : goal.loop-slot-preserved
loop-slot-preserved c =
    let f = at_least c.args.least in
    ap (λ (y : StoredSlot). set c.loop-slot.stored c.loop-slot.slot-index y) (c.raise_serial.ensures ∙ ap f (sym c.slot-item.is)) ∙ map_over_more f c.args.stored.now c.loop-slot.stored c.loop-slot.slot-index c.slot-item.result c.loop-slot-test.true c.loop-slot.invariant c.slot-item.is
