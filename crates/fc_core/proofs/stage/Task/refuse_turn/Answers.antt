use Rattle.std.proofs.Common.{false, ap, ◌∙◌}
use Rattle.fc_registry.specs.Views.{taken_with}
use Rattle.fc_core.specs.Stage.{Stage}
use Rattle.fc_core.specs.Stages.{turn_took}
use Rattle.fc_core.proofs.TurnSnapshots.{turn_calls_at, turn_takes_without}
use Rattle.fc_core.proofs.stage.Task.refuse_turn.Goals as goal

pub invariant_of-stage : goal.invariant_of-stage
invariant_of-stage c =
    let found = c.take_into.new.found in
    (c.turn_took.ensures c.stage.inside.answer found c.stage.inside.seen (c.without_memory-taken.ensures found).1).1

pub returns-clause-task : goal.returns-clause-task
returns-clause-task c = λ k others common.
    let found = c.take_into.new.found in
    ap (λ (s : Stage). record { job = c.args.self.now.job; stage = s })
    ((c.turn_took.ensures c.stage.inside.answer found c.stage.inside.seen (c.without_memory-taken.ensures found).1).0
    ∙ ap (turn_took c.args.turn) (c.without_memory-taken.ensures found).0)
    ∙ turn_takes_without c.args.shard.now c.args.self.now c.args.turn c.requires.turn c.requires.fits _ (taken_with c.take_into.result found) c.take_into.ensures.taken k others common

pub returns-clause-shard : goal.returns-clause-shard
returns-clause-shard c = λ k others common. turn_calls_at c.args.shard.now c.args.self.now c.args.turn c.requires.turn c.requires.fits _ c.take_into.ensures.after k false others common
