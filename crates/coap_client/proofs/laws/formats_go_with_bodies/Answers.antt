use Rattle.std.proofs.Common.{refl}
use Rattle.coap_opts.specs.Values.{uint_bytes}
use Rattle.coap_client.proofs.laws.formats_go_with_bodies.Goals as goal

pub returns-clause-json : goal.returns-clause-json
unfolding uint_bytes
returns-clause-json c = λ path query. refl

pub returns-clause-text : goal.returns-clause-text
unfolding uint_bytes
returns-clause-text c = refl
