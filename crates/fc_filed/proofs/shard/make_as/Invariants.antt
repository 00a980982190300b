use Rattle.std.specs.Prelude.{Some}
use Rattle.fc_filed.specs.Saves.{stored_save}
use Rattle.fc_filed.specs.Threads.{entry_with}
use Rattle.fc_filed.proofs.shard.make_as.Given as goal

abbrev pub ghosts-file_saved : goal.ghosts-file_saved
ghosts-file_saved g a = record { entry = entry_with (Some (stored_save g.X.SavedName.update)) a.who a.tracks.now (g.X.SavedName.operation a.answer.now a.room.now) }
