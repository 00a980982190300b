use Rattle.fc_calls.specs.Logged.{LooksAt}
use Rattle.fc_linear.specs.Operations.{Logged}
use Rattle.fc_filed.specs.Threads.{entry_by}
use Rattle.fc_filed.proofs.book.ServerTracks.raise.Given as goal

abbrev pub ghosts-raise_as : goal.ghosts-raise_as
ghosts-raise_as g a = record { entry = entry_by a.who a.tracks.now (Logged (LooksAt 0 0)) }
