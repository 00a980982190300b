use Rattle.std.proofs.Common.{◌%◌, None, refl, subst}
use Rattle.fc_core.specs.declared.event.Event.TheVariants.{Peek}
use Rattle.fc_registry.specs.Shards.{shard_at}
use Rattle.fc_server.specs.States.{Does, ServerState, common_in, inputs_in}
use Rattle.fc_server.proofs.Others.{does_quietly, peek_idle}
use Rattle.fc_server.proofs.server.Server.peek.Goals as goal

pub returns : goal.returns
returns c = λ k.
    let s : ServerState = record { front = c.self.inside.front; shards = c.self.inside.shards.items; words = c.self.inside.heads } in
    let task = c.args.task.now in
    subst (λ (x : ServerState). Does (Peek k c.args.slot) x task x c.peek.new.self None) c.self.view_is
    (does_quietly (Peek k c.args.slot) s s task c.peek.new.self _ (peek_idle k c.args.slot (inputs_in s task)) refl (c.peek.ensures k (shard_at s.shards (task.job.origin.slot % 8)) (common_in s.front s.words).free) refl)
