use Rattle.std.proofs.Common.{◌≤◌, ap, length, length-append, arith}
use Rattle.coap_msg.specs.Wire.{options_bytes}
use Rattle.coap_msg.proofs.Sizes.{message_fits}
use Rattle.coap_opts.specs.Replies.{reply_options}
use Rattle.coap_opts.proofs.reply.Reply.write.Goals as goal

pub returns-clause-message : goal.returns-clause-message
returns-clause-message c =
    let options = reply_options c.args.self.now.options in
    let short : length (options_bytes 0 options) ≤ 65 = omega (arith, ap length c.write.ensures.bytes, length-append c.write_head.new.datagram.items (options_bytes 0 options), c.write.ensures.room) in
    message_fits _ c.requires.code c.fit_head.ensures.code c.fit_head.ensures.id c.requires.token c.write.ensures.options (omega (arith, short, c.requires.token, c.requires.payload))
