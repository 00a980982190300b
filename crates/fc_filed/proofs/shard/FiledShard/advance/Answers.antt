use Rattle.std.proofs.Common.{Bool, refl, subst}
use Rattle.fc_calls.specs.Doings.{PassesIfIdle}
use Rattle.fc_calls.specs.Logged.{AdvancesIdle}
use Rattle.fc_linear.specs.Operations.{Logged}
use Rattle.fc_filed.specs.Threads.{entry_by}
use Rattle.fc_filed.proofs.Shards.{calls_more}
use Rattle.fc_filed.proofs.shard.FiledShard.advance.Goals as goal

pub invariant_of-self : goal.invariant_of-self
invariant_of-self g c =
    let x = c.self.inside.shard in
    let y = c.call-advanced.new.shard in
    let e = entry_by c.args.who c.args.tracks.now (Logged (AdvancesIdle y.index c.args.now)) in
    let passes = subst (λ (b : Bool). PassesIfIdle c.args.now x b y) c.if-advanced.true c.call-advanced.ensures.does in
    calls_more g.J.ServerName.first g.J.ServerName.persistent g.P.Part.key c.self.inside.track c.file_advance.new.track e x y c.file_advance.ensures.track c.self.invariant
    (record { does = passes; saved = λ p. c.call-advanced.ensures.kept refl; unsaved = λ p. refl; refused = λ u is. absurd (cc is) }) c.call-advanced.ensures.index c.call-advanced.ensures.eight
