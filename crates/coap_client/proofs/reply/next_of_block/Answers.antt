use Rattle.coap_client.proofs.NextParts.{block_further, is_further}
use Rattle.coap_client.proofs.reply.next_of_block.Goals as goal

pub returns-else-class-ne-SUCCESS-clause-further : goal.returns-else-class-ne-SUCCESS-clause-further
returns-else-class-ne-SUCCESS-clause-further c = λ part is.
    is_further c.next_of_further.result _ part c.next_of_further.ensures (block_further c.args.number c.args.szx c.args.etag.now c.args.message.now c.requires.size) is
