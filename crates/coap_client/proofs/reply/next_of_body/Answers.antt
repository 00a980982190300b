use Rattle.coap_client.proofs.NextParts.{next_body_is}
use Rattle.coap_client.proofs.reply.next_of_body.Goals as goal
use Rattle.std.proofs.Common.{refl}

pub returns-then-next-lt-BLOCKS : goal.returns-then-next-lt-BLOCKS
returns-then-next-lt-BLOCKS c = next_body_is c.args.number c.args.szx c.args.smaller _ c.requires.block refl c.if-next-lt-BLOCKS.true
