use Rattle.std.proofs.Common.{◌≤◌, length, subst, sym, arith}
use Rattle.coap_client.proofs.Sizes.{two_bytes}
use Rattle.coap_client.proofs.client_request.encode_format.Goals as goal

pub returns-clause-short : goal.returns-clause-short
returns-clause-short c = subst (λ bytes. length bytes ≤ 2) (sym c.encode_uint.ensures) (two_bytes _ (let same = c.from.ensures in let fits = c.ranges.format.fits in omega (arith, same, fits)))
