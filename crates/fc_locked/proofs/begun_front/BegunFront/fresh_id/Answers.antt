use Rattle.std.proofs.Math.Logic.{∥∥₁_map}
use Rattle.fc_calls.specs.Logged.{DrawsId}
use Rattle.fc_linear.specs.Operations.{Logged}
use Rattle.fc_locked.specs.Fronts.{Draws}
use Rattle.fc_locked.proofs.Fronts.{goes_on}
use Rattle.fc_backend.proofs.Logs.{keeps_tracks}
use Rattle.fc_locked.proofs.begun_front.BegunFront.fresh_id.Goals as goal

pub invariant_of-self : goal.invariant_of-self
invariant_of-self g c = record { began = ∥∥₁_map c.args.self.now.began (goes_on (Draws c.args.now _ c.fresh_id.ensures.drawn)) }

pub invariant_of-log : goal.invariant_of-log
invariant_of-log g c = keeps_tracks g.B.Books.first_job c.log.inside.who (Logged (DrawsId c.args.now c.fresh_id.result)) c.log.inside.tracks c.fresh_id.ensures.filed c.log.invariant
