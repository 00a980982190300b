use Rattle.std.proofs.Common.{rules, ◌∙◌}
use Rattle.fc_replay.proofs.Events.{event_more}
use Rattle.fc_replay.proofs.replay.events.Goals as goal

pub loop-line-preserved : goal.loop-line-preserved
loop-line-preserved c = event_more c.args.lines.now c.loop-line.line-index c.line-item.result c.loop-line.events.items c.push.new.self.items c.in-Some.event c.loop-line-test.true c.line-item.is c.loop-line.invariant c.in-Some.ensures (c.push.ensures.items ∙ search (rules))
