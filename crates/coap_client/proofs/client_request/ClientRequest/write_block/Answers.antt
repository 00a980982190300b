use Rattle.std.proofs.Common.{rules, refl, ap, length}
use Rattle.coap_client.proofs.Sizes.{block_fits}
use Rattle.coap_client.proofs.client_request.ClientRequest.write_block.Goals as goal

pub write-requires : goal.write-requires
write-requires c =
    block_fits c.args.self.now c.args.number c.args.szx _ _ _ _ _ c.ranges.id.fits c.requires refl (ap length c.to_be_bytes-token.ensures) (search rules)
