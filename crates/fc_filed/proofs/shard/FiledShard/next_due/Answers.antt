use Rattle.std.proofs.Common.{refl}
use Rattle.fc_registry.specs.Turns.{written_if}
use Rattle.fc_calls.specs.Logged.{GivesTurn}
use Rattle.fc_linear.specs.Operations.{Logged}
use Rattle.fc_filed.specs.Threads.{entry_by}
use Rattle.fc_filed.proofs.Shards.{calls_more}
use Rattle.fc_filed.proofs.shard.FiledShard.next_due.Goals as goal

pub invariant_of-self : goal.invariant_of-self
invariant_of-self g c =
    let y = c.call-is_due.new.shard in
    let e = entry_by c.args.who c.begin_if.new.tracks (Logged (GivesTurn y.index c.args.now (written_if c.call-is_due.result c.call-is_due.new.room))) in
    calls_more g.J.ServerName.first g.J.ServerName.persistent g.P.Part.key c.self.inside.track c.file_due.new.track e c.self.inside.shard y c.file_due.ensures.track c.self.invariant (record { does = c.call-is_due.ensures.does; saved = λ p. c.call-is_due.ensures.kept refl; unsaved = λ p. refl; refused = λ u is. absurd (cc is) }) c.call-is_due.ensures.index c.call-is_due.ensures.eight
