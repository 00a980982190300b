use Rattle.std.proofs.Common.{arith}
use Rattle.coap_msg.proofs.Whole.{bad_is_read, read_is_bad, read_is_spelled, spelled_is_read}
use Rattle.coap_msg.proofs.laws.readings_are_right.Goals as goal

pub returns-clause-message : goal.returns-clause-message
returns-clause-message c m = (read_is_spelled c.args.bytes.now m (record { each = λ k. omega (arith, c.type_inv.bytes k) }), spelled_is_read c.args.bytes.now m)

pub returns-clause-bad : goal.returns-clause-bad
returns-clause-bad c e = (read_is_bad c.args.bytes.now e, bad_is_read c.args.bytes.now e (record { each = λ k. omega (arith, c.type_inv.bytes k) }))
