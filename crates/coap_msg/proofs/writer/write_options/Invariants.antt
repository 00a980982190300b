use Rattle.std.proofs.Common.{drop}
use Rattle.coap_msg.specs.Writing.{options_in}
use Rattle.coap_msg.proofs.Written.{Written}
use Rattle.coap_msg.proofs.writer.write_options.Given as goal

abbrev pub invariant-loop-number : goal.invariant-loop-number
invariant-loop-number l = Written l.initial.datagram.items (options_in l.options) l.datagram.items l.before (options_in (drop l.number-index l.options))
