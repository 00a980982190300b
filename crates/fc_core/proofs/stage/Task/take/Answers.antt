use Rattle.fc_core.proofs.stage.Task.take.Goals as goal

pub invariant_of-stage : goal.invariant_of-stage
invariant_of-stage c = (c.took.ensures c.take_into-taken.new.found c.stage.inside.seen c.take_into-taken.ensures.size).1
