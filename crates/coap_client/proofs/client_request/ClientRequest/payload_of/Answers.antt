use Rattle.std.proofs.Common.{◌≡◌, ◌∙◌, ap}
use Rattle.coap_opts.specs.Values.{block_size}
use Rattle.coap_client.proofs.Sizes.{block_is}
use Rattle.coap_client.proofs.client_request.ClientRequest.payload_of.Goals as goal

pub returns-in-Body : goal.returns-in-Body
returns-in-Body c =
    let szx : c.new-block.result.szx ≡ c.in-Body.szx = cc c.new-block.ensures in
    let number : c.new-block.result.number ≡ c.in-Body.number = cc c.new-block.ensures in
    rw c.in-Body.is (block_is _ c.in-Body.number c.in-Body.szx _ _ _ _ (c.size.ensures ∙ ap block_size szx) (c.number.ensures.number ∙ number) (c.size-in-Body.ensures ∙ ap block_size szx) c.min.ensures)
