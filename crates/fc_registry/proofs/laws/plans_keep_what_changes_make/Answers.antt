use Rattle.fc_registry.proofs.Plans.{kept_changed}
use Rattle.fc_registry.proofs.laws.plans_keep_what_changes_make.Goals as goal

pub returns : goal.returns
returns c slot k n change s kept planned image = kept_changed slot k n change s kept planned image
