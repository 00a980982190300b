use Rattle.std.proofs.Common.{◌≡◌, take}
use Rattle.coap_client.specs.Paths.{path_text}
use Rattle.coap_uri.specs.Addresses.{texts_in}
use Rattle.coap_uri.proofs.address.path_of.Given as goal

abbrev pub invariant-loop-segment : goal.invariant-loop-segment
invariant-loop-segment l = l.path.items ≡ path_text (texts_in (take l.segment-index l.segments))
