use Rattle.std.proofs.Common.{◌<◌, arith}
use Rattle.coap_opts.proofs.Numbers.{one_more_byte}
use Rattle.coap_opts.proofs.uint.decode_uint.Goals as goal

pub overflow_mul-number : goal.overflow_mul-number
overflow_mul-number c = omega (arith, one_more_byte c.loop-byte.byte-index c.loop-byte.number 0 (omega arith) c.loop-byte.invariant.below (omega arith))

pub overflow_add-number : goal.overflow_add-number
overflow_add-number c =
    let byte : c.from.result < 256 = omega (arith, c.from.ensures, c.type_inv.bytes c.loop-byte.byte-index) in
    omega (arith, one_more_byte c.loop-byte.byte-index c.loop-byte.number c.from.result (omega arith) c.loop-byte.invariant.below byte)
