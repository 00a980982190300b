use Rattle.std.proofs.Common.{◌<◌, ◌^◌, arith}
use Rattle.coap_opts.proofs.Numbers.{below_power}
use Rattle.coap_opts.proofs.block.Block.read.Goals as goal

pub overflow_cast-value : goal.overflow_cast-value
overflow_cast-value c = let three : c.decode_uint-value.result < 256 ^ 3 = below_power _ 3 _ c.decode_uint-value.ensures.below c.requires in omega arith

pub invariant_of-result : goal.invariant_of-result
invariant_of-result c =
    let three : c.decode_uint-value.result < 256 ^ 3 = below_power _ 3 _ c.decode_uint-value.ensures.below c.requires in
    (omega arith, omega arith)
