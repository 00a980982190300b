use Rattle.fc_front.specs.Answering.{emission_of, responded}
use Rattle.fc_calls.specs.Logged.{AnswersRequest}
use Rattle.fc_linear.specs.Operations.{Logged}
use Rattle.fc_filed.specs.Threads.{entry_by}
use Rattle.fc_filed.proofs.front.FiledFront.respond.Given as goal

abbrev pub ghosts-file_answer : goal.ghosts-file_answer
ghosts-file_answer g a = record { entry = entry_by a.who a.tracks.now (Logged (AnswersRequest a.now a.job.now a.answer.now (emission_of (responded a.outcome.now a.reply.now)))) }
