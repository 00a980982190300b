use Rattle.std.proofs.Common.{rules}
use Rattle.coap_client.proofs.Sizes.{request_fits}
use Rattle.coap_client.proofs.client_request.ClientRequest.write.Goals as goal

pub write-requires : goal.write-requires
write-requires c =
    request_fits c.args.self.now c.args.part _ _ _ c.format_of-format.result _ _ c.ranges.id.fits c.requires c.method_code.ensures c.format_of-format.ensures.short (search rules) c.payload_of.ensures
