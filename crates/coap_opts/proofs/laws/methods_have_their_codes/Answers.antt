use Rattle.std.proofs.Common.{refl}
use Rattle.coap_opts.proofs.Rows.{code_is}
use Rattle.coap_opts.proofs.laws.methods_have_their_codes.Goals as goal

pub returns : goal.returns
returns c = record { get = refl; post = refl; put = refl; delete = refl; only = code_is }
