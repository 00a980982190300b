use Rattle.std.proofs.Common.{refl}
use Rattle.std.specs.Int.{w64, to_be_bytes}
use Rattle.coap_opts.proofs.Spellings.{whole}
use Rattle.coap_reply.proofs.laws.versions_are_serials.Goals as goal

pub returns-clause-etag : goal.returns-clause-etag
returns-clause-etag c serial below = (to_be_bytes w64 serial, refl, refl, whole serial below)
