use Rattle.std.proofs.Common.{ℕ, length, subst, ◌∙◌}
use Rattle.fc_core.specs.Stage.{ToMatch}
use Rattle.fc_front.specs.Receiving.{emission_if}
use Rattle.fc_server.specs.Serving.{Serves, worked}
use Rattle.fc_server.proofs.Served.{at_work, begun_on, kept_by, peeked_on}
use Rattle.fc_server.proofs.engine.look_and_run.Goals as goal

pub peek-requires : goal.peek-requires
peek-requires c = at_work c.requires.rest c.requires.serves

pub run-requires : goal.run-requires
run-requires c =
    let rest = c.requires.rest in
    begun_on rest (peeked_on rest c.requires.serves c.number-slot.result (c.peek.ensures (length rest)))

pub returns-clause-works : goal.returns-clause-works
returns-clause-works c = λ h rest v.
    let out = emission_if c.run.result.is_sent c.run.new.reply in
    let w = c.run.ensures.works 0 _ rest (peeked_on rest v c.number-slot.result (c.peek.ensures (length rest))) in
    record {
      memory = w.memory;
      tasks = w.tasks;
      serves = subst (λ (n : ℕ). Serves (worked c.args.readings.now ToMatch n (length rest) w.memory c.args.now out h) c.run.new.server w.tasks) c.number-slot.ensures.number w.serves;
    }

pub returns-clause-job : goal.returns-clause-job
returns-clause-job c = c.run.ensures.job ∙ kept_by (c.peek.ensures 0)
