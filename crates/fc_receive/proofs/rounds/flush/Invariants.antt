use Rattle.fc_server.proofs.FlushingSteps.{Steps}
use Rattle.fc_receive.specs.Traffic.{Sends}
use Rattle.fc_receive.proofs.rounds.flush.Given as goal

-- at least `taken` steps were taken, and exactly the datagrams sent by the steps were passed to the
-- sink.
abbrev pub invariant-steps : goal.invariant-steps
invariant-steps g l = Steps g.N.Ingress.calls (λ es. Sends g.K.Sink.went es l.fn.replied l.replied) l.taken l.now l.fn.ingress l.ingress l.flushing
