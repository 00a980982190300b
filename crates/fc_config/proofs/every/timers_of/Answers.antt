use Rattle.std.proofs.Common.{map, rules}
use Rattle.fc_config.proofs.ReadTimers.{pushed, refused_at, returned}
use Rattle.fc_config.specs.Every.{AreRefusedBy}
use Rattle.fc_config.proofs.every.timers_of.Goals as goal

pub loop-text-preserved : goal.loop-text-preserved
loop-text-preserved c =
    pushed c.args.texts.now c.loop-text.text-index c.loop-text.timers.items c.push_timer.new.timers.items _
    (search rules) c.loop-text.invariant c.in_ok-push_timer.ensures

pub returns-in_err-push_timer-clause-refused : goal.returns-in_err-push_timer-clause-refused
returns-in_err-push_timer-clause-refused c =
    returned c.from_residual.result c.in_err-push_timer.field-0.0 (AreRefusedBy (map (λ text. text.now) c.args.texts.now)) c.from_residual.ensures.1
    (refused_at c.args.texts.now c.loop-text.text-index c.loop-text.timers.items _ c.in_err-push_timer.field-0.0 (search rules) c.loop-text.invariant c.in_err-push_timer.ensures)
