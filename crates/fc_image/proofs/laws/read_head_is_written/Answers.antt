use Rattle.fc_image.proofs.Restated.{are_bytes, head_restated}
use Rattle.fc_image.proofs.laws.read_head_is_written.Goals as goal

pub returns : goal.returns
returns c = head_restated c.args.image.now (are_bytes c.args.image.now c.type_inv.image)
