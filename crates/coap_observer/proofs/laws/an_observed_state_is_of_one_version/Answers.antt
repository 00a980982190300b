use Rattle.coap_observer.proofs.JoinedStates.{one_body}
use Rattle.coap_observer.proofs.laws.an_observed_state_is_of_one_version.Goals as goal

pub returns-clause-blocks : goal.returns-clause-blocks
returns-clause-blocks c = λ m reply replies code body out ends success. one_body m reply replies code body out ends success
