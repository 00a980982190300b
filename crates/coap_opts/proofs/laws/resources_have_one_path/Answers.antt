use Rattle.coap_opts.proofs.Paths.{path_named, path_only}
use Rattle.coap_opts.proofs.laws.resources_have_one_path.Goals as goal

pub returns : goal.returns
returns c = record { named = path_named; only = path_only }
