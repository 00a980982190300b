use Rattle.std.proofs.Math.Logic.{∥∥₁_map}
use Rattle.fc_calls.specs.Logged.{AnswersRequest}
use Rattle.fc_linear.specs.Operations.{Logged}
use Rattle.fc_locked.specs.Fronts.{Answers}
use Rattle.fc_locked.proofs.Fronts.{goes_on}
use Rattle.fc_backend.proofs.Logs.{keeps_tracks}
use Rattle.fc_locked.proofs.begun_front.BegunFront.respond.Goals as goal

pub invariant_of-self : goal.invariant_of-self
invariant_of-self g c = record { began = ∥∥₁_map c.args.self.now.began (goes_on (Answers c.args.now c.args.job.now c.args.answer.now _ c.respond.ensures.answered)) }

pub invariant_of-log : goal.invariant_of-log
invariant_of-log g c = keeps_tracks g.B.Books.first_job c.log.inside.who (Logged (AnswersRequest c.args.now c.args.job.now c.args.answer.now _)) c.log.inside.tracks c.respond.ensures.filed c.log.invariant
