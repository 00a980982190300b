use Rattle.std.proofs.Common.{◌≡◌, ◌+◌, ◌-◌, sym, subst, true, arith}
use Rattle.fc_registry.specs.Watches.{is_idle}
use Rattle.fc_filed.specs.Parts.{ShardCalls}
use Rattle.fc_filed.proofs.Idle.{leads_idle}
use Rattle.fc_filed.proofs.shard.FiledShard.note_idle.Goals as goal

pub note_idle-requires-clause-idle : goal.note_idle-requires-clause-idle
note_idle-requires-clause-idle g c =
    let key = g.P.Part.key in
    let shard = c.self.inside.shard in
    let told = c.track_key-index.ensures in
    let led = c.self.invariant in
    let index : (c.track_key-index.result - 1) + 1 ≡ key = (let low = led.2 in omega (arith, told, low)) in
    let idle : is_idle shard ≡ true = subst (λ (s : ShardCalls). is_idle s.shard ≡ true) (sym c.self.view_is) c.requires.idle in
    leads_idle g.J.ServerName.first g.J.ServerName.persistent key (c.track_key-index.result - 1) c.idle_until-until.result c.self.inside.track shard index led c.idle_until-until.ensures idle
