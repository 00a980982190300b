use Rattle.coap_block.proofs.UnderWay.{added_continues, added_whole}
use Rattle.coap_block.proofs.laws.blocks_that_fit_are_joined.Goals as goal

pub returns : goal.returns
returns c = record { whole = added_whole; continues = added_continues }
