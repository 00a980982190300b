use Rattle.fc_calls.specs.Logged.{AdvancesIdle}
use Rattle.fc_linear.specs.Operations.{Logged}
use Rattle.fc_backend.proofs.Logs.{keeps_tracks_if}
use Rattle.fc_locked.proofs.counted_shard.Counted.advance_if_idle.Goals as goal

pub invariant_of-log : goal.invariant_of-log
invariant_of-log g c =
    keeps_tracks_if g.B.Books.first_job c.log.inside.who c.advance_if_idle.result (Logged (AdvancesIdle c.self.inside.filed.shard.index c.args.now)) c.log.inside.tracks
    c.advance_if_idle.ensures.filed c.log.invariant
