use Rattle.std.proofs.Common.{length}
use Rattle.coap_client.specs.Paths.{slices_in}
use Rattle.coap_client.proofs.Splitting.{IsCutTo}
use Rattle.coap_client.proofs.path.Path.parse.Given as goal

abbrev pub invariant-loop-after : goal.invariant-loop-after
invariant-loop-after l = IsCutTo l.text (slices_in l.segments.items) l.rest

abbrev pub decreases-loop-after : goal.decreases-loop-after
decreases-loop-after l = length l.rest
