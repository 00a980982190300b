use Rattle.fc_core.proofs.stage.Task.refuse_take.Goals as goal

pub invariant_of-stage : goal.invariant_of-stage
invariant_of-stage c =
    let found = c.take_into.new.found in
    (c.took.ensures found c.stage.inside.seen (c.without_memory-taken.ensures found).1).1
