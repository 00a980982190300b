use Rattle.fc_calls.specs.Logged.{AdvancesIdle}
use Rattle.fc_linear.specs.Operations.{Logged}
use Rattle.fc_filed.specs.Threads.{entry_by}
use Rattle.fc_filed.proofs.shard.FiledShard.advance.Given as goal

abbrev pub ghosts-file_advance : goal.ghosts-file_advance
ghosts-file_advance g a = record { entry = entry_by a.who a.tracks.now (Logged (AdvancesIdle a.shard.now.index a.now)) }
