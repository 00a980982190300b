-- Peers identified by a number, and the printed form of emissions.
use Rattle.std.specs.Prelude.{ℕ, List, [], ◌∷◌, ◌++◌, slice_index}
use Rattle.std.specs.Fmt.{decimal}
use Rattle.hex.specs.Hex.{encode_lower}
use Rattle.coap_msg.specs.declared.types.Endpoint.{Endpoint}
use Rattle.coap_msg.specs.declared.types.Emission.{Emission}
use Rattle.fc_lines.specs.Fields.{space}

-- the endpoint of a peer: 127.0.0.peer, at CoAP's port.
abbrev pub peer_endpoint : ℕ → Endpoint
peer_endpoint peer = record { ip = 127 ∷ 0 ∷ 0 ∷ peer ∷ []; port = 5683 }

-- an emission is printed as `peer hex` and a line feed.
abbrev pub printed : Emission → List ℕ
printed e = decimal (slice_index e.to.ip 3) ++ (space ∷ (encode_lower e.bytes.items ++ (10 ∷ [])))
