use Rattle.std.proofs.Common.{ℕ, ◌++◌, ap, ◌∙◌, rules}
use Rattle.std.specs.Global.{Vec}
use Rattle.coap_uri.proofs.Segments.{path_grown}
use Rattle.coap_uri.proofs.address.path_of.Goals as goal

pub loop-segment-preserved : goal.loop-segment-preserved
loop-segment-preserved c =
    let segment = c.segment-item.result in
    let bytes_are = c.deref.ensures.value ∙ ap (λ (text : Vec ℕ). text.items) c.segment-item.is in
    let added = c.in_ok-extend_from_slice.ensures.items ∙ ap (λ bytes. c.push.new.self.items ++ bytes) bytes_are in
    path_grown c.args.segments.now c.loop-segment.segment-index segment c.loop-segment.path.items c.push.new.self.items c.extend_from_slice.new.self.items
    (search rules) c.loop-segment.invariant c.in_ok-push.ensures.items added
