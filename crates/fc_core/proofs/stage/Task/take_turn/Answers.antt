use Rattle.std.proofs.Common.{Bool, ap, sym, ◌∙◌}
use Rattle.fc_registry.specs.Views.{taken_with}
use Rattle.fc_core.specs.Stage.{Stage}
use Rattle.fc_core.specs.declared.event.Event.TheVariants.{Take}
use Rattle.fc_core.specs.Transitions.{transition, inputs_of, task_moved}
use Rattle.fc_core.proofs.TurnSnapshots.{turn_calls_at, turn_takes}
use Rattle.fc_core.proofs.stage.Task.take_turn.Goals as goal

pub invariant_of-stage : goal.invariant_of-stage
invariant_of-stage c = (c.turn_took.ensures c.stage.inside.answer c.take_into-taken.new.found c.stage.inside.seen c.take_into-taken.ensures.size).1

pub returns-clause-task : goal.returns-clause-task
returns-clause-task c = λ k common.
    let found = c.take_into-taken.new.found in
    let taken = taken_with c.take_into-taken.result found in
    ap (λ (s : Stage). record { job = c.args.self.now.job; stage = s })
    (c.turn_took.ensures c.stage.inside.answer found c.stage.inside.seen c.take_into-taken.ensures.size).0
    ∙ (turn_takes c.args.shard.now c.args.self.now c.args.turn c.requires.turn c.requires.fits c.args.readings.now taken c.take_into-taken.ensures.taken k common
    ∙ ap (λ (m : Bool). task_moved c.args.self.now (transition (Take k m c.args.readings.now) (inputs_of c.args.shard.now common c.args.self.now)))
    (sym (c.had_memory-memory.ensures found)))

pub returns-clause-shard : goal.returns-clause-shard
returns-clause-shard c = λ k common. turn_calls_at c.args.shard.now c.args.self.now c.args.turn c.requires.turn c.requires.fits _ c.take_into-taken.ensures.after k c.had_memory-memory.result c.args.readings.now common
