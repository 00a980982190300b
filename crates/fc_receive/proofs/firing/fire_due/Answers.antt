use Rattle.std.proofs.Common.{arith, length, ◌<◌, ◌≡◌}
use Rattle.fc_receive.proofs.Fired.{fired_more}
use Rattle.fc_receive.proofs.firing.fire_due.Goals as goal

pub loop-place-preserved : goal.loop-place-preserved
loop-place-preserved g c =
    let calls = g.N.Ingress.calls in
    let k = c.loop-place.place in
    let all = c.args.timers.now in
    let ts = c.loop-place.timers in
    let t = c.index-timers-place.result in
    let u = c.fire_if_due.new.timer in
    let same : length ts ≡ length all = c.loop-place.auto.timers in
    let lt : k < length ts = omega arith in
    fired_more calls c.args.now k all ts u t c.args.ingress.now c.loop-place.ingress c.fire_if_due.new.ingress lt same c.loop-place.invariant c.fire_if_due.ensures
