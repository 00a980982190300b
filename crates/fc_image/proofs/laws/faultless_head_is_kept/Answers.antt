use Rattle.fc_image.proofs.Kept.{head_kept}
use Rattle.fc_image.proofs.laws.faultless_head_is_kept.Goals as goal

pub returns : goal.returns
returns c = head_kept c.args.image.now
