use Rattle.fc_backend.proofs.Logs.{keeps_tracks}
use Rattle.fc_locked.proofs.counted_shard.Counted.ask.Goals as goal

pub invariant_of-log : goal.invariant_of-log
invariant_of-log g c = keeps_tracks g.B.Books.first_job c.log.inside.who _ c.log.inside.tracks c.ask.ensures.filed c.log.invariant
