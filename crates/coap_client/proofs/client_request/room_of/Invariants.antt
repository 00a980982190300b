use Rattle.std.proofs.Common.{◌≡◌, min, take, sum_by}
use Rattle.coap_client.specs.Paths.{slices_in}
use Rattle.coap_client.specs.Parts.{option_room}
use Rattle.coap_client.proofs.client_request.room_of.Given as goal

abbrev pub invariant-loop-value : goal.invariant-loop-value
invariant-loop-value l = l.room ≡ min (sum_by option_room (slices_in (take l.value-index l.values))) 18446744073709551615
