use Rattle.fc_filed.specs.Threads.{entry_by}
use Rattle.fc_filed.proofs.shard.ask_as.Given as goal

abbrev pub ghosts-file_answer : goal.ghosts-file_answer
ghosts-file_answer g a = record { entry = entry_by a.who a.tracks.now (g.X.OperationName.operation a.answer.now a.room.now) }
