use Rattle.coap_uri.proofs.Addressing.{parsed_host}
use Rattle.coap_uri.proofs.address.host_of.Goals as goal

pub returns-in_default : goal.returns-in_default
returns-in_default c = parsed_host c.args.name.now c.parse.result c.ok.result c.ok.ensures.value c.parse.ensures.value c.in_default.not-localhost
