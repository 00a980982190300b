use Rattle.std.proofs.Common.{ap, sym, ◌∙◌}
use Rattle.fc_core.specs.Stages.{after_commit}
use Rattle.fc_core.proofs.stage.Step.committed.Goals as goal

pub returns-in-Overtaken : goal.returns-in-Overtaken
returns-in-Overtaken c = λ f seen.
    ((c.overtaken.ensures f seen).0 ∙ sym (ap (after_commit c.args.count c.args.ticket.now) c.in-Overtaken.is), (c.overtaken.ensures f seen).1)

pub returns-in-Ended : goal.returns-in-Ended
returns-in-Ended c = λ f seen.
    ((c.unavailable.ensures f seen).0 ∙ sym (ap (after_commit c.args.count c.args.ticket.now) c.in-Ended.is), (c.unavailable.ensures f seen).1)

pub returns-in-Stranger : goal.returns-in-Stranger
returns-in-Stranger c = λ f seen. (
  (c.unavailable-in-Stranger.ensures f seen).0 ∙ sym (ap (after_commit c.args.count c.args.ticket.now) c.in-Stranger.is),
  (c.unavailable-in-Stranger.ensures f seen).1,
)
