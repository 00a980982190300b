use Rattle.std.proofs.Common.{◌%◌, None, refl, subst}
use Rattle.fc_core.specs.declared.event.Event.TheVariants.{Refuse}
use Rattle.fc_core.specs.Stages.{is_refusable}
use Rattle.fc_core.specs.Steps.{RefusesChange}
use Rattle.fc_registry.specs.Shards.{shard_at}
use Rattle.fc_server.specs.States.{Does, ServerState, common_in, inputs_in}
use Rattle.fc_server.proofs.Others.{call_idle, does_quietly}
use Rattle.fc_server.proofs.server.Server.refuse.Goals as goal

pub returns : goal.returns
returns c = λ k.
    let s : ServerState = record { front = c.self.inside.front; shards = c.self.inside.shards.items; words = c.self.inside.heads } in
    let task = c.args.task.now in
    subst (λ (x : ServerState). Does (Refuse k) x task s c.refuse.new.self None) c.self.view_is
    (does_quietly (Refuse k) s s task c.refuse.new.self _ (call_idle (Refuse k) (inputs_in s task) (RefusesChange task.stage) refl (is_refusable task.stage)) refl (c.refuse.ensures k (shard_at s.shards (task.job.origin.slot % 8)) (common_in s.front s.words)) refl)
