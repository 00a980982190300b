use Rattle.fc_calls.specs.Logged.{LooksAt}
use Rattle.fc_linear.specs.Operations.{Logged}
use Rattle.fc_filed.specs.Threads.{entry_by}
use Rattle.fc_filed.proofs.book.ServerTracks.look.Given as goal

abbrev pub ghosts-look_as : goal.ghosts-look_as
ghosts-look_as g a = record { entry = entry_by a.who a.tracks.now (Logged (LooksAt 0 0)) }
