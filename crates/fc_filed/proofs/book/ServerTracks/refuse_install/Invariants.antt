use Rattle.fc_linear.specs.Operations.{RefusesInstall}
use Rattle.fc_filed.specs.Threads.{entry_by}
use Rattle.fc_filed.proofs.book.ServerTracks.refuse_install.Given as goal

abbrev pub ghosts-refuse_as : goal.ghosts-refuse_as
ghosts-refuse_as g a = record { entry = entry_by a.who a.tracks.now (RefusesInstall a.job.now) }
