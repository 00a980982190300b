use Rattle.fc_calls.specs.Logged.{SkipsIdle}
use Rattle.fc_linear.specs.Operations.{Logged}
use Rattle.fc_filed.specs.Threads.{entry_by}
use Rattle.fc_filed.proofs.book.ServerTracks.skip_if_idle.Given as goal

abbrev pub ghosts-skip_as : goal.ghosts-skip_as
ghosts-skip_as g a = record { entry = entry_by a.who a.tracks.now (Logged (SkipsIdle a.index a.now)) }
