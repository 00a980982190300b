use Rattle.fc_calls.specs.Logged.{AdvancesFront}
use Rattle.fc_linear.specs.Operations.{Logged}
use Rattle.fc_filed.specs.Threads.{entry_by}
use Rattle.fc_filed.proofs.front.FiledFront.tick.Given as goal

abbrev pub ghosts-file_tick : goal.ghosts-file_tick
ghosts-file_tick g a = record { entry = entry_by a.who a.tracks.now (Logged (AdvancesFront a.now)) }
