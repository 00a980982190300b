use Rattle.fc_linear.specs.Operations.{RejectsImage}
use Rattle.fc_filed.specs.Threads.{entry_by}
use Rattle.fc_filed.proofs.book.ServerTracks.reject_image.Given as goal

abbrev pub ghosts-reject_as : goal.ghosts-reject_as
ghosts-reject_as g a = record { entry = entry_by a.who a.tracks.now (RejectsImage a.job.now a.answer.now) }
