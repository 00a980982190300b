use Rattle.std.proofs.Common.{◌≡◌, map}
use Rattle.percent_encoding.specs.Percent.{percent_decode}
use Rattle.coap_uri.specs.Addresses.{texts_in}
use Rattle.coap_uri.proofs.address.pieces.Given as goal

abbrev pub invariant-loop-piece : goal.invariant-loop-piece
invariant-loop-piece l = texts_in l.pieces.items ≡ map percent_decode (map (λ piece. piece.now) l.yielded)
