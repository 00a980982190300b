use Rattle.coap_observer.proofs.ObserverResets.{reset_leaving, reset_registering}
use Rattle.coap_observer.proofs.laws.observers_are_rejected_by_a_reset.Goals as goal

pub returns-clause-registration : goal.returns-clause-registration
returns-clause-registration c = λ token id request calls s. reset_registering token id request calls s

pub returns-clause-deregistration : goal.returns-clause-deregistration
returns-clause-deregistration c = λ token id request calls s. reset_leaving token id request calls s
