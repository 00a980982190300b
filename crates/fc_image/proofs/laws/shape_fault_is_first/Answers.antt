use Rattle.fc_image.proofs.ShapeLaws.{fault_is, fault_low, is_fault}
use Rattle.fc_image.proofs.laws.shape_fault_is_first.Goals as goal

pub returns-clause-is_first : goal.returns-clause-is_first
returns-clause-is_first c = fault_is

pub returns-clause-only_first : goal.returns-clause-only_first
returns-clause-only_first c = is_fault

pub returns-clause-low : goal.returns-clause-low
returns-clause-low c = fault_low
