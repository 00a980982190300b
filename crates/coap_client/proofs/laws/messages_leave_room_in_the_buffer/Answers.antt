use Rattle.std.proofs.Common.{ap, length, arith}
use Rattle.coap_client.proofs.laws.messages_leave_room_in_the_buffer.Goals as goal

pub returns-clause-message : goal.returns-clause-message
returns-clause-message c = λ bytes m h.
    let same = ap length h.bytes_are in
    let size = h.limits.size in
    omega (arith, same, size)
