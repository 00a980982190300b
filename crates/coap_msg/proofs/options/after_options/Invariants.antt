use Rattle.std.proofs.Common.{length}
use Rattle.coap_msg.proofs.Walk.{Walked}
use Rattle.coap_msg.proofs.options.after_options.Given as goal

abbrev pub invariant-loop-rest : goal.invariant-loop-rest
invariant-loop-rest l = Walked l.bytes l.number l.rest

abbrev pub decreases-loop-rest : goal.decreases-loop-rest
decreases-loop-rest l = length l.rest
