use Rattle.std.proofs.Common.{◌≡◌, ℕ, ◌<◌, ◌∙◌, List, ap, get_or, if◌then◌else◌, length, set, subst, sym}
use Rattle.std.proofs.lemmas.List.{get_or_default}
use Rattle.fc_registry.specs.Shards.{no_shard, shard_at}
use Rattle.fc_registry.specs.Slots.{Shard}
use Rattle.fc_registry.specs.Watches.{at_time}
use Rattle.fc_server.specs.States.{ServerState}
use Rattle.fc_server.proofs.Quiet.{advanced_at}
use Rattle.fc_server.proofs.server.Server.advance_if_idle.Goals as goal

pub returns-clause-shards : goal.returns-clause-shards
returns-clause-shards c =
    let found = c.index_mut.result.now in
    let shards = c.self.inside.shards.items in
    let after = c.advance_if_idle.new.self in
    let seen : shards ≡ c.args.self.now.shards = ap (λ (s : ServerState). s.shards) c.self.view_is in
    let within = subst (λ (l : List Shard). c.args.shard < length l) (sym seen) c.requires in
    let read : found ≡ get_or shards c.args.shard found = c.index_mut.ensures.value ∙ ap (λ (i : ℕ). get_or shards i found) c.from.ensures in
    let is : found ≡ shard_at shards c.args.shard = read ∙ get_or_default shards c.args.shard found no_shard within in
    let done = advanced_at c.advance_if_idle.result shards c.args.shard c.args.now found after read is c.advance_if_idle.ensures.after in
    ap (λ (i : ℕ). set shards i after) c.from.ensures
    ∙ subst (λ (l : List Shard). set shards c.args.shard after ≡ (if c.advance_if_idle.result then set l c.args.shard (at_time (shard_at l c.args.shard) c.args.now) else l)) seen done
