use Rattle.std.proofs.Common.{◌≤◌}
use Rattle.std.specs.Vec.{vec_capacity}
use Rattle.coap_dedup.proofs.Index.{none_indexed}
use Rattle.coap_dedup.proofs.requests.Requests.new.Goals as goal

pub invariant_of-result : goal.invariant_of-result
invariant_of-result c =
    let room : c.args.capacity ≤ vec_capacity c.in_ok-with_capacity-2.field-0 = search c.in_ok-with_capacity-2.ensures.capacity in
    (none_indexed c.args.capacity c.in_ok-with_capacity.field-0 c.in_ok-with_capacity-2.field-0 c.requires (search c.in_ok-with_capacity.ensures) (search c.in_ok-with_capacity-2.ensures.items) room, tt)
