use Rattle.std.proofs.Common.{◌/◌, ◌∙◌, ap}
use Rattle.fc_registry.specs.Slots.{slot_in}
use Rattle.fc_registry.specs.Watches.{watch_at}
use Rattle.fc_registry.specs.declared.commit.Committed.{Committed}
use Rattle.fc_machine.specs.Ran.{Ran}
use Rattle.fc_registry.specs.Calls.{outcome}
use Rattle.fc_core.specs.Stages.{after_commit}
use Rattle.fc_core.proofs.Commits.{IsTransition, commit_done, commit_transition, left_by, shard_of_transition}
use Rattle.fc_core.proofs.task.run_and_commit.Goals as goal

pub committed-requires : goal.committed-requires
committed-requires c =
    let n = c.args.ticket.now.origin.slot in
    let w = c.commit-committed.ensures in
    commit_done c.run-outcome.result c.args.ticket.now (slot_in c.args.shard.now n) (watch_at c.args.shard.now (n / 8)) c.commit-committed.result w.after w.commit

-- the result of the commit, and the slot after it, are those of the transition.
transition : (c : goal.After-frame-1) → IsTransition c.args.ticket.now (slot_in c.args.shard.now c.args.ticket.now.origin.slot) (watch_at c.args.shard.now (c.args.ticket.now.origin.slot / 8)) c.commit-committed.result c.commit-committed.ensures.after
transition c =
    let n = c.args.ticket.now.origin.slot in
    let made = c.run-outcome.ensures.made in
    let w = c.commit-committed.ensures in
    commit_transition c.run-outcome.result c.args.ticket.now (slot_in c.args.shard.now n) (watch_at c.args.shard.now (n / 8)) c.commit-committed.result w.after
    (ap (λ (r : Ran). r.program) made ∙ c.program.ensures) (ap (λ (r : Ran). r.input.request) made ∙ c.request.ensures) (ap (λ (r : Ran). r.input.vars) made ∙ c.vars.ensures.vars) (ap (λ (r : Ran). r.input.readings) made ∙ c.readings.ensures)
    c.requires.given c.requires.asked w.commit

pub returns-clause-stage : goal.returns-clause-stage
returns-clause-stage c = λ f seen.
    ((c.committed.ensures f seen).0 ∙ ap (λ (x : Committed). after_commit c.args.count c.args.ticket.now x) (transition c).answer, (c.committed.ensures f seen).1)

pub returns-clause-shard : goal.returns-clause-shard
returns-clause-shard c =
    let shard = c.args.shard.now in
    let t = c.args.ticket.now in
    c.commit-committed.ensures.shard
    ∙ ((λ i. left_by t c.args.now shard ((transition c).answer i) ((transition c).after_is i))
    ∙ shard_of_transition (outcome t (slot_in shard t.origin.slot)) c.args.count t c.args.now shard)
