use Rattle.fc_front.specs.Receiving.{handled}
use Rattle.fc_calls.specs.Logged.{HandlesDatagram}
use Rattle.fc_linear.specs.Operations.{Logged}
use Rattle.fc_filed.specs.Threads.{entry_by}
use Rattle.fc_filed.proofs.front.FiledFront.handle_for_first.Given as goal

abbrev pub ghosts-file_handled : goal.ghosts-file_handled
ghosts-file_handled g a = record { entry = entry_by a.who a.tracks.now (Logged (HandlesDatagram a.now a.endpoint a.bytes.now (handled a.outcome.now a.job.now a.reply.now))) }
