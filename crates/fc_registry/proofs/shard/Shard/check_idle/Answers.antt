use Rattle.std.proofs.Common.{◌≡◌, false, sym, ap}
use Rattle.fc_registry.specs.Slots.{Shard}
use Rattle.fc_registry.proofs.Watched.{unwatched_idle}
use Rattle.fc_registry.proofs.shard.Shard.check_idle.Goals as goal

pub returns-then-not-self-clause-idle : goal.returns-then-not-self-clause-idle
returns-then-not-self-clause-idle c =
    let off : c.self.inside.watched ≡ false = search c.if-not-self.true in
    sym (unwatched_idle c.self.inside.watched c.self.inside.watches.items (record c.args.self.now { now = c.args.now }) off c.self.invariant.5 (ap (λ
    (s : Shard). s.watches) c.self.view_is))
