use Rattle.std.proofs.Common.{◌≡◌, length}
use Rattle.std.specs.Prelude.{filter}
use Rattle.circular_buffer.specs.Buffer.{buffer}
use Rattle.coap_dedup.specs.Views.{request_is_live}
use Rattle.coap_dedup.proofs.requests.Requests.expire.Given as goal

abbrev pub invariant-oldest : goal.invariant-oldest
invariant-oldest l = buffer (filter (request_is_live l.now) l.self.items) l.self.capacity ≡ buffer (filter (request_is_live l.now) l.initial.self.items) l.initial.self.capacity

abbrev pub decreases-oldest : goal.decreases-oldest
decreases-oldest l = length l.self.items
