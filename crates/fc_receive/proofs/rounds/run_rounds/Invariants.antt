use Rattle.fc_receive.proofs.Runs.{Runs}
use Rattle.fc_receive.specs.Rounds.{round_calls}
use Rattle.fc_receive.proofs.rounds.run_rounds.Given as goal

-- the rounds so far received `received` datagrams, and led to these states.
abbrev pub invariant-loop : goal.invariant-loop
invariant-loop g l =
    (goal.iterator-loop g).can_next l.iterator' × (goal.iterator-loop g).is_finite l.iterator'
    × Runs g.P.Preparation.readies g.N.Ingress.calls (round_calls g.S.Source.received g.M.TimeSource.is_time g.K.Sink.went)
    l.limit l.received l.wait (g.S.Source.came l.fn.source) (g.S.Source.came l.source) l.fn.ingress l.ingress l.replied
