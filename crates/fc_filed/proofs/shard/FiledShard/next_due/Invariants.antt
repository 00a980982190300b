use Rattle.fc_registry.specs.Turns.{written_if}
use Rattle.fc_calls.specs.Logged.{GivesTurn}
use Rattle.fc_linear.specs.Operations.{Logged}
use Rattle.fc_filed.specs.Threads.{entry_by}
use Rattle.fc_filed.proofs.shard.FiledShard.next_due.Given as goal

abbrev pub ghosts-file_due : goal.ghosts-file_due
ghosts-file_due g a = record { entry = entry_by a.who a.tracks.now (Logged (GivesTurn a.shard.now.index a.now (written_if a.is_due a.job.now))) }
