use Rattle.coap_opts.proofs.Within.{asked_within, refused_within}
use Rattle.coap_opts.proofs.laws.requests_are_within.Goals as goal

pub returns : goal.returns
returns c = record { accepted = asked_within; refused = refused_within }
