use Rattle.std.proofs.Common.{arith}
use Rattle.coap_msg.specs.Writing.{options_in}
use Rattle.coap_msg.proofs.Written.{room_for, short_for}
use Rattle.coap_msg.proofs.writer.write_options.Goals as goal

pub write_option-requires : goal.write_option-requires
write_option-requires c = (
  omega arith,
  (
    short_for c.args.datagram.now.items (options_in c.args.options.now) c.loop-number.datagram.items c.loop-number.before c.loop-number.number-index c.args.options.now _ (omega arith) c.loop-number.invariant,
    room_for c.args.datagram.now.items (options_in c.args.options.now) c.loop-number.datagram.items c.loop-number.before c.loop-number.number-index 1280 c.args.options.now _ (omega arith) c.loop-number.invariant c.requires.room,
  ),
)
