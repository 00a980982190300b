use Rattle.std.proofs.Common.{refl}
use Rattle.coap_opts.specs.Values.{uint_bytes}
use Rattle.coap_observer.proofs.laws.registers_by_0_and_deregisters_by_1.Goals as goal

pub returns-clause-registration : goal.returns-clause-registration
unfolding uint_bytes
returns-clause-registration c = λ e token id. refl

pub returns-clause-deregistration : goal.returns-clause-deregistration
unfolding uint_bytes
returns-clause-deregistration c = λ e token id. refl
