use Rattle.coap_opts.proofs.Within.{action_only, action_served}
use Rattle.coap_opts.proofs.laws.actions_have_their_methods.Goals as goal

pub returns : goal.returns
returns c = record { served = action_served; only = action_only }
