-- The equality of two endpoints (RFC 7252, section 1.2).
use Rattle.std.specs.Prelude.{◌==◌, ◌&&◌, nat_eq, Bool}
use Rattle.std.specs.Cmp.Lexicographic.{pointwise}
use Rattle.coap_msg.specs.declared.types.Endpoint.{Endpoint}

abbrev pub same_endpoint : Endpoint → Endpoint → Bool
same_endpoint a b = pointwise nat_eq a.ip b.ip && (a.port == b.port)
