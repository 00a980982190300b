use Rattle.fc_calls.specs.Logged.{DrawsId}
use Rattle.fc_linear.specs.Operations.{Logged}
use Rattle.fc_filed.specs.Threads.{entry_by}
use Rattle.fc_filed.proofs.front.FiledFront.fresh_id.Given as goal

abbrev pub ghosts-file_draw : goal.ghosts-file_draw
ghosts-file_draw g a = record { entry = entry_by a.who a.tracks.now (Logged (DrawsId a.now a.id)) }
