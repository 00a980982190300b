use Rattle.std.proofs.Common.{None, rules}
use Rattle.fc_config.proofs.LogPeriods.{period_next}
use Rattle.fc_config.proofs.logging.period_among.Goals as goal

pub loop-text-preserved : goal.loop-text-preserved
loop-text-preserved c =
    period_next c.args.texts.now c.loop-text.text-index None c.loop-text.period c.in_ok-period.period _ (search rules) c.loop-text.invariant c.in_ok-period.ensures
