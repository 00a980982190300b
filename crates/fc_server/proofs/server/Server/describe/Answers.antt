use Rattle.std.proofs.Common.{ap, ◌∙◌, length, None, refl, subst}
use Rattle.fc_core.specs.declared.event.Event.TheVariants.{Receipt}
use Rattle.fc_core.specs.Transitions.{transition, inputs_of, task_moved}
use Rattle.fc_registry.specs.Slots.{Shard}
use Rattle.fc_server.specs.States.{Does, ServerState, common_in, inputs_in}
use Rattle.fc_server.proofs.Others.{does_quietly, owner_read, receipt_idle}
use Rattle.fc_server.proofs.server.Server.describe.Goals as goal

pub returns : goal.returns
returns c = λ k.
    let in_ = c.self.inside in
    let s : ServerState = record { front = in_.front; shards = in_.shards.items; words = in_.heads } in
    let task = c.args.task.now in
    let found = c.index.result.now in
    let eight = ap (λ (x : ServerState). length x.shards) c.self.view_is ∙ c.requires.count in
    let owner = owner_read s.shards task.job.origin.slot c.shard.result found eight c.shard.ensures.limit c.shard.ensures.shard c.index.ensures in
    subst (λ (x : ServerState). Does (Receipt k) x task x c.describe.new.self None) c.self.view_is
    (does_quietly (Receipt k) s s task c.describe.new.self _ (receipt_idle k (inputs_in s task)) refl
    (c.describe.ensures k (common_in s.front s.words) ∙ ap (λ (x : Shard). task_moved task (transition (Receipt k) (inputs_of x (common_in s.front s.words) task))) owner)
    refl)
