use Rattle.std.proofs.Common.{◌++◌, ℕ, codes, ap}
use Rattle.std.specs.Fmt.{digits}
use Rattle.coap_msg.specs.Codes.{code_text}
use Rattle.coap_observer.proofs.laws.unfetched_blocks_have_a_reason.Goals as goal

pub returns-clause-refused : goal.returns-clause-refused
unfolding digits
returns-clause-refused c = λ code is. ap (λ (b : ℕ). codes "a further block was refused by " ++ code_text b) is
