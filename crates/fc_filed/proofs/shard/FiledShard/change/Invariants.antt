use Rattle.std.specs.Prelude.{Some}
use Rattle.fc_registry.specs.Slots.{slot_in}
use Rattle.fc_linear.specs.Operations.{FailsToSave}
use Rattle.fc_filed.specs.Saves.{refused_save, update_of}
use Rattle.fc_filed.specs.Threads.{entry_with}
use Rattle.fc_filed.proofs.shard.FiledShard.change.Given as goal

abbrev pub ghosts-make_as : goal.ghosts-make_as
ghosts-make_as g a =
    let n = g.C.Change.slot a.call in
    record { operation = g.C.FiledCall.operation a.shard.now.index a.call; update = update_of (slot_in a.shard.now n) n (g.C.Change.change a.call) (g.C.Change.image a.call) }

abbrev pub ghosts-refuse_as : goal.ghosts-refuse_as
ghosts-refuse_as g a =
    let n = g.C.Change.slot a.call.now in
    let update = update_of (slot_in a.shard.now n) n (g.C.Change.change a.call.now) (g.C.Change.image a.call.now) in
    record { entry = entry_with (Some (refused_save update)) a.who a.tracks.now (FailsToSave update) }
