use Rattle.std.proofs.Common.{ℕ, ◌<◌, List, subst, sym}
use Rattle.fc_registry.specs.Shards.{shard_at}
use Rattle.fc_server.specs.States.{ServerState}
use Rattle.fc_book.specs.Tracks.{entries_of}
use Rattle.fc_filed.specs.declared.entry.FiledEntry.{FiledEntry}
use Rattle.fc_filed.specs.Idle.{LeadToIdle}
use Rattle.fc_filed.proofs.book.FiledTrack.note_idle.Goals as goal

pub note_idle-requires-clause-idle : goal.note_idle-requires-clause-idle
note_idle-requires-clause-idle g c =
    let i = c.args.index in
    let es = entries_of c.self.inside.seat.me.0.locked in
    subst (λ (b : ServerState). (now : ℕ) → now < c.args.until → LeadToIdle (shard_at b.shards i) es now) (sym c.book.invariant.2)
    (subst (λ (l : List FiledEntry). (now : ℕ) → now < c.args.until → LeadToIdle (shard_at g.J.ServerName.first.shards i) l now) (sym c.self.view_is) c.requires.idle)
