use Rattle.std.proofs.Common.{arith}
use Rattle.coap_msg.proofs.Whole.{spelled_is_found, found_is_spelled}
use Rattle.coap_msg.proofs.laws.messages_have_one_spelling.Goals as goal

pub returns-clause-found : goal.returns-clause-found
returns-clause-found c = spelled_is_found c.args.bytes.now

pub returns-clause-spelled : goal.returns-clause-spelled
returns-clause-spelled c m e = found_is_spelled c.args.bytes.now m (record { each = λ k. omega (arith, c.type_inv.bytes k) }) e
