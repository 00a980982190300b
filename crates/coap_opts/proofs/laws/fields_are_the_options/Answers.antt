use Rattle.coap_opts.proofs.Within.{asked_made}
use Rattle.coap_opts.proofs.laws.fields_are_the_options.Goals as goal

pub returns : goal.returns
returns c = asked_made
