use Rattle.coap_block.proofs.Keys.{after_other}
use Rattle.coap_block.proofs.laws.blocks_leave_other_transfers.Goals as goal

pub returns : goal.returns
returns c = after_other
