use Rattle.std.proofs.Common.{None, map, take}
use Rattle.fc_config.specs.Logs.{ArePeriods}
use Rattle.fc_config.proofs.logging.period_among.Given as goal

abbrev pub invariant-loop-text : goal.invariant-loop-text
invariant-loop-text l = ArePeriods (map (λ text. text.now) (take l.text-index l.texts)) None l.period
