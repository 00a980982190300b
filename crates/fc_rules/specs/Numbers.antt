-- Numbers that no rule has.
use Rattle.std.specs.Prelude.{◌≡◌, ℕ}
use Rattle.fc_isa.specs.declared.rule.Rule.{Rule}
use Rattle.fc_isa.specs.Rules.{number_of}

-- no rule has this number.
abbrev pub IsNoRule : ℕ → Type 0
IsNoRule number = (rule : Rule) → number_of rule ≡ number → ⊥
