use Rattle.fc_receive.proofs.Fired.{AreFiredBelow}
use Rattle.fc_receive.proofs.firing.fire_due.Given as goal

-- the timers so far have fired.
abbrev pub invariant-loop-place : goal.invariant-loop-place
invariant-loop-place g l = AreFiredBelow g.N.Ingress.calls l.now l.place l.fn.timers l.timers l.fn.ingress l.ingress
