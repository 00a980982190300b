use Rattle.std.proofs.Common.{ap, ◌∙◌}
use Rattle.fc_isa.specs.Shapes.{is_known, shape_of}
use Rattle.fc_isa.proofs.Insns.{unknown_fault}
use Rattle.fc_isa.proofs.laws.unknown_opcodes_are_refused.Goals as goal

pub returns : goal.returns
returns c = λ k f next e. unknown_fault f next (ap (λ o. is_known (shape_of o)) e ∙ k)
