use Rattle.std.proofs.Common.{◌≡◌, drop}
use Rattle.fc_image.specs.ShapeRules.{first_broken}
use Rattle.fc_image.proofs.control_flow.first_broken.Given as goal

abbrev pub invariant-loop-rule : goal.invariant-loop-rule
invariant-loop-rule l = first_broken l.head l.code l.rules ≡ first_broken l.head l.code (drop l.rule-index l.rules)
