use Rattle.fc_image.proofs.ShapeLaws.{faultless, no_fault}
use Rattle.fc_image.proofs.laws.faultless_shape_is_kept.Goals as goal

pub returns-clause-kept : goal.returns-clause-kept
returns-clause-kept c = λ head code some e. faultless head code e some

pub returns-clause-only_kept : goal.returns-clause-only_kept
returns-clause-only_kept c = no_fault
