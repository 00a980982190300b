use Rattle.std.proofs.Common.{◌≡◌, ◌∙◌, Some, arith, sym}
use Rattle.coap_msg.proofs.Whole.{found_is_spelled, spelled_is_found, none_is_spelled, bad_is_bad, read_some, read_none}
use Rattle.coap_msg.proofs.parser.read.Goals as goal

pub returns-in-Some-clause-message : goal.returns-in-Some-clause-message
returns-in-Some-clause-message c = found_is_spelled c.args.bytes.now c.in-Some.message (record { each = λ k. omega (arith, c.type_inv.bytes k) }) (sym c.in-Some.ensures)

pub returns-in-Some-clause-spelled : goal.returns-in-Some-clause-spelled
returns-in-Some-clause-spelled c = λ m s. let same : Some c.in-Some.message ≡ Some m = c.in-Some.ensures ∙ spelled_is_found c.args.bytes.now m s in cc

pub returns-in-Some-clause-function : goal.returns-in-Some-clause-function
returns-in-Some-clause-function c = sym (read_some c.args.bytes.now c.in-Some.message (sym c.in-Some.ensures))

pub returns-in-None-clause-spelled : goal.returns-in-None-clause-spelled
returns-in-None-clause-spelled c = λ m s. absurd (none_is_spelled c.args.bytes.now (sym c.in-None.ensures) m s)

pub returns-in-None-clause-bad : goal.returns-in-None-clause-bad
returns-in-None-clause-bad c = rw c.refusal.ensures (bad_is_bad c.args.bytes.now (sym c.in-None.ensures))

pub returns-in-None-clause-function : goal.returns-in-None-clause-function
returns-in-None-clause-function c = rw c.refusal.ensures (sym (read_none c.args.bytes.now (sym c.in-None.ensures)))
