use Rattle.coap_block.proofs.UnderWay.{few_transfers, held_from, held_to}
use Rattle.coap_block.proofs.laws.transfers_are_payloads_joined.Goals as goal

pub returns : goal.returns
returns c = record { held = λ h now to n body r. (held_from h now to n body r, held_to h now to n body r); few = few_transfers }
