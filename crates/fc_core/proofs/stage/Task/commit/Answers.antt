use Rattle.fc_core.proofs.stage.Task.commit.Goals as goal

pub invariant_of-stage-2 : goal.invariant_of-stage-2
invariant_of-stage-2 c = (c.run_and_commit.ensures.stage c.stage.inside.found c.stage.inside.seen).1
