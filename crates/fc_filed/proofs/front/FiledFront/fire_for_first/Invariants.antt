use Rattle.fc_calls.specs.Logged.{FiresTimer}
use Rattle.fc_linear.specs.Operations.{Logged}
use Rattle.fc_filed.specs.Threads.{entry_by}
use Rattle.fc_filed.proofs.front.FiledFront.fire_for_first.Given as goal

abbrev pub ghosts-file_fire : goal.ghosts-file_fire
ghosts-file_fire g a = record { entry = entry_by a.who a.tracks.now (Logged (FiresTimer a.slot a.now)) }
