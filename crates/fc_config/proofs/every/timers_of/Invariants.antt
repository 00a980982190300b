use Rattle.std.proofs.Common.{map, take}
use Rattle.std.specs.List.{AllZip}
use Rattle.fc_config.specs.Every.{IsTimerText}
use Rattle.fc_config.proofs.every.timers_of.Given as goal

abbrev pub invariant-loop-text : goal.invariant-loop-text
invariant-loop-text l = AllZip IsTimerText (map (λ text. text.now) (take l.text-index l.texts)) l.timers.items
