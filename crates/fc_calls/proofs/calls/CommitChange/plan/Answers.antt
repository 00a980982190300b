use Rattle.std.proofs.Common.{◌/◌}
use Rattle.fc_registry.specs.Slots.{slot_in}
use Rattle.fc_registry.specs.Watches.{watch_at}
use Rattle.fc_registry.specs.Calls.{commit_of}
use Rattle.fc_calls.proofs.Planned.{commit_image, commit_made, commit_slots}
use Rattle.fc_calls.proofs.calls.CommitChange.plan.Goals as goal

pub returns-clause-made : goal.returns-clause-made
returns-clause-made c = λ answer room after does.
    let call = c.args.self.now in
    let n = call.ticket.now.origin.slot in
    let shard = c.args.shard.now in
    commit_made call.outcome.now call.ticket.now (slot_in shard n) (watch_at shard (n / 8)) c.plan_commit.result answer does.after
    c.plan_commit.ensures.none c.plan_commit.ensures.writes does.commit

pub returns-clause-slots : goal.returns-clause-slots
returns-clause-slots c = λ answer room after does. commit_slots _ c.args.self.now.ticket.now c.args.shard.now _ answer after does

pub returns-clause-own_image : goal.returns-clause-own_image
returns-clause-own_image c =
    let t = c.args.self.now.ticket.now in
    commit_image (slot_in c.args.shard.now t.origin.slot) t.origin.slot (commit_of t) c.plan_commit.result c.plan_commit.ensures.some
