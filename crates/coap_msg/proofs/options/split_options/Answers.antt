use Rattle.std.proofs.Common.{arith, refl}
use Rattle.coap_msg.proofs.Walk.{ends_shorter, ends_split}
use Rattle.coap_msg.proofs.options.split_options.Goals as goal

pub slice_bounds-options-count : goal.slice_bounds-options-count
slice_bounds-options-count c = ends_shorter c.args.bytes.now c.in_ok-after.after.now (record { each = λ k. omega (arith, c.type_inv.bytes k) }) c.in_ok-after.ensures

pub returns : goal.returns
returns c = ends_split c.args.bytes.now _ c.in_ok-after.after.now (record { each = λ k. omega (arith, c.type_inv.bytes k) }) c.in_ok-after.ensures refl
