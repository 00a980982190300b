use Rattle.std.proofs.Common.{◌<◌, ◌^◌, arith}
use Rattle.coap_opts.proofs.Numbers.{below_power}
use Rattle.coap_observer.proofs.notice.decode.Goals as goal

pub overflow_cast-result : goal.overflow_cast-result
overflow_cast-result c = let few : c.decode_uint.result < 256 ^ 3 = below_power _ 3 _ c.decode_uint.ensures.below c.requires in omega arith
